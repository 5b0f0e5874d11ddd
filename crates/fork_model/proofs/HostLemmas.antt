-- The result of requests of the host itself.
use Rattle.std.proofs.Common.{◌≡◌, ◌≢◌, ◌⊎◌, true, inl, inr, refl, ap}
use Rattle.fork_request.specs.Told.{is_done, is_host_fault}
use Rattle.fork_request.specs.declared.host_request.HostRequest.{HostRequest}
use Rattle.fork_request.specs.declared.host_request.HostRequest.TheVariants.{Sweep, Collect, Census, Fsck, Tenants, Bad}
use Rattle.fork_request.specs.declared.refusal.Refusal.TheVariants.{BadRequest}
use Rattle.fork_request.specs.declared.reply.Reply.{Reply}
use Rattle.fork_request.specs.declared.reply.Reply.TheVariants.{Done, Refused}
use Rattle.fork_model.specs.Figures.{figure_lines}
use Rattle.fork_model.specs.Runs.{HostAsks, HostAnswered, HostFaulted}
use Rattle.fork_model.specs.World.{World, HostSays, Steps}

pub bad_reply : (old new : World) (reply : Reply) → Steps old (HostAsks Bad) reply new → (reply ≡ Refused BadRequest) ⊎ (is_host_fault reply ≡ true)
bad_reply old new reply (HostAnswered says stays) = inl says
bad_reply old new reply (HostFaulted bad stays) = inr bad

pub figures_reply : (old new : World) (reply : Reply) → Steps old (HostAsks Tenants) reply new → (reply ≡ Done (figure_lines old)) ⊎ (is_host_fault reply ≡ true)
figures_reply old new reply (HostAnswered says stays) = inl says
figures_reply old new reply (HostFaulted bad stays) = inr bad

pub same_world : (old new : World) (request : HostRequest) (reply : Reply) → Steps old (HostAsks request) reply new → new ≡ old
same_world old new request reply (HostAnswered says stays) = stays
same_world old new request reply (HostFaulted bad stays) = stays

-- what is reported for a request that is not bad is data
told_done : (world : World) (request : HostRequest) (reply : Reply) → HostSays world request reply → request ≢ Bad → is_done reply ≡ true
told_done world (Sweep most) reply says good = ap is_done says.2
told_done world Collect reply says good = ap is_done says.1
told_done world Census reply says good = ap is_done says.1
told_done world Fsck reply says good = ap is_done says.1
told_done world Tenants reply says good = ap is_done says
told_done world Bad reply says good = absurd (good refl)

pub good_reply : (old new : World) (request : HostRequest) (reply : Reply) → Steps old (HostAsks request) reply new → request ≢ Bad → (is_done reply ≡ true) ⊎ (is_host_fault reply ≡ true)
good_reply old new request reply (HostAnswered says stays) good = inl (told_done old request reply says good)
good_reply old new request reply (HostFaulted bad stays) good = inr bad
