-- Example names, and the first rule that each breaks.
use Rattle.std.proofs.Common.{◌≡◌, ◌∷◌, [], None, Some, refl}
use Rattle.std.specs.Prelude.{codes}
use Rattle.git_refname.specs.declared.rule.Rule.TheVariants.{Component, OneLevel, TwoDots, Slashes, AtBrace, OutsideRefs}
use Rattle.git_refname.specs.Namespace.{expanded}
use Rattle.git_refname.specs.Rule.{least_broken_rule}

pub a_component_ends_in_lock : least_broken_rule (codes "refs/heads/a.lock") ≡ Some Component
unfolding least_broken_rule
a_component_ends_in_lock = refl

pub the_first_component_ends_in_lock : least_broken_rule (codes "a.lock/b") ≡ Some Component
unfolding least_broken_rule
the_first_component_ends_in_lock = refl

-- the rule of components goes before that of `..`
pub a_component_goes_before_two_dots : least_broken_rule (codes "a..lock") ≡ Some Component
unfolding least_broken_rule
a_component_goes_before_two_dots = refl

pub a_component_goes_before_slashes : least_broken_rule (codes "refs/heads//..") ≡ Some Component
unfolding least_broken_rule
a_component_goes_before_slashes = refl

pub two_dots_stand_together : least_broken_rule (codes "refs/heads/a..b") ≡ Some TwoDots
unfolding least_broken_rule
two_dots_stand_together = refl

pub a_lone_component_at_is_right : least_broken_rule (codes "refs/heads/@") ≡ None
unfolding least_broken_rule
a_lone_component_at_is_right = refl

pub an_at_stands_before_a_brace : least_broken_rule (codes "refs/@{x") ≡ Some AtBrace
unfolding least_broken_rule
an_at_stands_before_a_brace = refl

pub a_slash_stands_last : least_broken_rule (codes "refs/") ≡ Some Slashes
unfolding least_broken_rule
a_slash_stands_last = refl

pub no_bytes_have_one_level : least_broken_rule [] ≡ Some OneLevel
unfolding least_broken_rule
no_bytes_have_one_level = refl

pub a_lone_at_has_one_level : least_broken_rule (codes "@") ≡ Some OneLevel
unfolding least_broken_rule
a_lone_at_has_one_level = refl

pub main_is_outside_of_refs : least_broken_rule (codes "main/x") ≡ Some OutsideRefs
unfolding least_broken_rule
main_is_outside_of_refs = refl

pub a_namespace_of_two_names : expanded (codes "a" ∷ codes "b" ∷ []) ≡ codes "refs/namespaces/a/refs/namespaces/b/"
a_namespace_of_two_names = refl
