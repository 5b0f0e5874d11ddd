-- What a tenant answers is its part in a step of the world.
use Rattle.std.proofs.Common.{◌≡◌, [], ap, ◌∙◌}
use Rattle.fork_reach.specs.Source.{Objects}
use Rattle.fork_request.specs.Asked.{Ask}
use Rattle.fork_request.specs.Told.{is_host_fault}
use Rattle.fork_request.specs.declared.reply.Reply.{Reply}
use Rattle.fork_request.specs.declared.reply.Reply.TheVariants.{Done}
use Rattle.fork_model.specs.Answer.{answer, pruned_reply}
use Rattle.fork_model.specs.Runs.{Told, Failed}
use Rattle.fork_model.specs.Context.{Context}
use Rattle.fork_model.specs.Sound.{IsSound, IsSoundBeside}
use Rattle.fork_model.specs.View.{View}
use Rattle.fork_model.specs.World.{Answers}
use Rattle.fork_model.proofs.SoundLemmas.{right_answer}
use Rattle.fork_host.specs.Rows.{plain, KeepsObjects, Kept, Unkept, Gives, Given, Wanting, Yields, Yielded, Lacking, Faulted}
use Rattle.fork_host.proofs.MadeLemmas.{IsShown, same_plain, shown_right}

-- the plain part of the new view determines the view, since answers keep views right
pub answers_of : (context : Context) (view new : View) (ask : Ask) (reply : Reply) → IsSoundBeside context view.objects → IsSound view → IsShown new → Yields (answer context view ask) view reply new → Answers context view ask reply new
answers_of context view new ask reply beside sound shown (Yielded told is) = Told told (same_plain new (answer context view ask).1 shown (shown_right (answer context view ask).1 (right_answer context view ask beside sound)) is)
answers_of context view new ask reply beside sound shown (Lacking wanting stays) = Failed (ap is_host_fault wanting) (same_plain new view shown (shown_right view sound.right) stays)
answers_of context view new ask reply beside sound shown (Faulted fault failed stays) = Failed (ap is_host_fault failed) (same_plain new view shown (shown_right view sound.right) stays)

-- a row that does not ask the store
pub yields_of : (row : Reply × View) (old new : View) (reply : Reply) → Gives row old reply new → Yields row old reply new
yields_of row old new reply (Given told is) = Yielded told (ap plain is)
yields_of row old new reply (Wanting wanting stays) = Lacking wanting (ap plain stays)

-- what holds of a view holds of each view with the same plain part
pub yields_plain : (row : Reply × View) (old now new : View) (reply : Reply) → plain new ≡ plain now → Yields row old reply now → Yields row old reply new
yields_plain row old now new reply same (Yielded told is) = Yielded told (same ∙ is)
yields_plain row old now new reply same (Lacking wanting stays) = Lacking wanting (same ∙ stays)
yields_plain row old now new reply same (Faulted fault failed stays) = Faulted fault failed (same ∙ stays)

-- objects that were kept, or not
pub yields_kept : (view : View) (kept objects : Objects) (reply : Reply) → KeepsObjects kept view.objects reply objects → Yields (pruned_reply view.objects kept, record view { objects = kept }) view reply (record view { objects = objects })
yields_kept view kept objects reply (Kept told is) = Yielded told (ap (λ o. plain (record view { objects = o })) is)
yields_kept view kept objects reply (Unkept fault told is) = Faulted fault told (ap (λ o. plain (record view { objects = o })) is)
