use Rattle.std.proofs.Common.{◌≡◌, ◌≤◌, length, take, vec_len, vec_capacity}
use Rattle.fork_model.specs.Sound.{IsOrderlyWorld, IsRightWorld}
use Rattle.fork_host.specs.Given.{events_given}
use Rattle.fork_host.specs.Shown.{Trusted, world_of}
use Rattle.fork_host.specs.Step.{IsRun}
use Rattle.fork_host.proofs.host.Host.run.Given as goal

-- the replies so far lead from the first state to this one, and there is room for the others
abbrev pub invariant-loop-step : goal.invariant-loop-step
invariant-loop-step g l = record {
  ran : IsRun l.fn.self (events_given (take l.step-index l.steps)) l.replies.items l.self;
  orderly : IsOrderlyWorld (world_of l.self);
  right : Trusted l.fn.self → IsRightWorld (world_of l.self);
  told : vec_len l.replies ≡ l.step-index;
  room : length l.steps ≤ vec_capacity l.replies;
}
