-- What the root names, and that there is one off list.
use Rattle.std.proofs.Common.{List, ap, sym, ◌∙◌}
use Rattle.vk_spec.specs.Conditions.{Condition}
use Rattle.vk_spec.specs.Manifests.{Dependency}
use Rattle.vk_spec.specs.Settings.{Setting, Instance}
use Rattle.vk_resolution.specs.Settings.{root, is_own, IsNamedByRoot, IsOff}
use Rattle.vk_resolution.specs.RootLaws.{DependsOnAnother, NamedMeans, with_off, OffListIsOne}
use Rattle.vk_resolution.proofs.SentenceLemmas.{depends_is, is_depends, another_is, is_another}

module _ (s : Setting) (d : Dependency Condition) (j : Instance) where
  named_is : IsNamedByRoot s d j → DependsOnAnother s d j
  named_is named = record {
    feature = named.feature;
    asked = named.asked;
    depends = depends_is s (root s.target.name) named.feature s.root d named.applies;
    another = another_is s (root s.target.name) d (ap (is_own s (root s.target.name)) named.names ∙ named.other);
    is = named.names;
  }

  is_named : DependsOnAnother s d j → IsNamedByRoot s d j
  is_named by = record {
    feature = by.feature;
    asked = by.asked;
    applies = is_depends s (root s.target.name) by.feature s.root d by.depends;
    names = by.is;
    other = ap (is_own s (root s.target.name)) (sym by.is) ∙ is_another s (root s.target.name) d by.another;
  }

pub named_means : NamedMeans
named_means s d j = (named_is s d j, is_named s d j)

-- whatever the off list, the root names the same instances, and the same are off
module _ (s : Setting) (one other : List Instance) where
  named_too : (d : Dependency Condition) (j : Instance) → IsNamedByRoot (with_off s one) d j → IsNamedByRoot (with_off s other) d j
  named_too d j named = record { feature = named.feature; asked = named.asked; applies = named.applies; names = named.names; other = named.other }

module _ (s : Setting) (one other : List Instance) where
  off_too : (j : Instance) → IsOff (with_off s one) j → IsOff (with_off s other) j
  off_too j off = record { by = off.by; named = named_too s one other off.by j off.named; never = λ d named. off.never d (named_too s other one d j named) }

pub off_list_is_one : OffListIsOne
off_list_is_one s one other lists lists_too j = (
  (λ h. (lists_too j).1 (off_too s one other j ((lists j).0 h))),
  (λ h. (lists j).1 (off_too s other one j ((lists_too j).0 h))),
)
