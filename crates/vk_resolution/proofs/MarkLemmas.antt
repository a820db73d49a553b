-- The listed marks are those that hold.
use Rattle.std.proofs.Common.{◌≡◌, ℕ, Bool, true, false, cond, List, [], ◌∷◌, inl, inr, refl, sym, subst}
use Rattle.std.specs.Prelude.{bytes_eq, codes}
use Rattle.std.specs.List.{Contains}
use Rattle.std.proofs.lemmas.Slice.Eq.{bytes_eq-Decides}
use Rattle.std.proofs.lemmas.List.Elements.{Contains-append_left, Contains-append_right, Contains-append_cases}
use Rattle.vk_spec.specs.Settings.{Setting, with_native}
use Rattle.vk_spec.proofs.ListLemmas.{contains_first}
use Rattle.vk_resolution.specs.MarkLaws.{HoldsFor, of_host, native_of_host, of_target, MarksMean}
use Rattle.vk_resolution.specs.Settings.{marks_of}
use Rattle.vk_resolution.proofs.Members.{true_false, no_is_false, contains_single}

module _ (s : Setting) (triplet mark : List ℕ) where
  holds_by : (b : Bool) → bytes_eq triplet s.host.name ≡ b → Contains (cond b (with_native s.host.marks) s.target.marks) mark → HoldsFor s triplet mark
  holds_by true e h =
      let same : triplet ≡ s.host.name = (bytes_eq-Decides triplet s.host.name).0 e in
      elim (Contains-append_cases s.host.marks (codes "native" ∷ []) mark h) [
        | inl listed ↦ of_host same listed
        | inr native ↦ native_of_host same (sym (contains_single (codes "native") mark native))
      ]
  holds_by false e h = of_target (λ same. true_false (bytes_eq triplet s.host.name) ((bytes_eq-Decides triplet s.host.name).1 same) e) h

  of_host_is : triplet ≡ s.host.name → Contains (with_native s.host.marks) mark → Contains (marks_of s triplet) mark
  of_host_is same h = subst (λ b. Contains (cond b (with_native s.host.marks) s.target.marks) mark) (sym ((bytes_eq-Decides triplet s.host.name).1 same)) h

  by_holds : HoldsFor s triplet mark → Contains (marks_of s triplet) mark
  by_holds (of_host same h) = of_host_is same (Contains-append_left s.host.marks (codes "native" ∷ []) mark h)
  by_holds (native_of_host same native) = of_host_is same (Contains-append_right s.host.marks (codes "native" ∷ []) mark (subst (Contains (codes "native" ∷ [])) (sym native) (contains_first (codes "native") [])))
  by_holds (of_target other h) =
      subst (λ b. Contains (cond b (with_native s.host.marks) s.target.marks) mark) (sym (no_is_false (bytes_eq triplet s.host.name) (λ e. other ((bytes_eq-Decides triplet s.host.name).0 e)))) h

pub marks_mean : MarksMean
marks_mean s triplet mark = (holds_by s triplet mark (bytes_eq triplet s.host.name) refl, by_holds s triplet mark)
