-- The shape of a view determines its offers, and not its upload.
use Rattle.std.proofs.Common.{◌≡◌, Option, None, Some, refl, sym, ap, ◌∙◌}
use Rattle.std.specs.Option.{option_map}
use Rattle.fork_model.specs.Answer.{without_upload}
use Rattle.fork_model.specs.View.{View}
use Rattle.fork_host.specs.Shape.{Shape, repositories_offered, view_shape}

-- views that differ at most in their uploads have the same shape
pub shape_but_upload : (new old : View) → without_upload new ≡ without_upload old → view_shape new ≡ view_shape old
shape_but_upload new old same = ap view_shape same

offers_shaped : (o : Option View) → option_map repositories_offered o ≡ option_map (λ (s : Shape). s.made) (option_map view_shape o)
offers_shaped None = refl
offers_shaped (Some view) = refl

-- tenants of the same shape have offered the same repositories
pub same_offers : (a b : Option View) → option_map view_shape a ≡ option_map view_shape b → option_map repositories_offered a ≡ option_map repositories_offered b
same_offers a b same = offers_shaped a ∙ ap (option_map (λ (s : Shape). s.made)) same ∙ sym (offers_shaped b)
