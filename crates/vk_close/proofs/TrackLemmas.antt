-- What is tracked when a fact more was asked about.
use Rattle.std.proofs.Common.{◌≡◌, Bool, true, false, ◌&&◌, List, [], ◌∷◌, ◌++◌, inl, inr, refl, sym, subst, ◌∙◌}
use Rattle.std.specs.Prelude.{Option, Some, None, IfSome}
use Rattle.std.specs.List.{Contains}
use Rattle.std.proofs.lemmas.List.Elements.{Contains-append_left, Contains-append_right, Contains-append_cases}
use Rattle.vk_spec.proofs.ListLemmas.{contains_first}
use Rattle.vk_resolution.specs.Givens.{Pages}
use Rattle.vk_resolution.specs.Asking.{Fact}
use Rattle.vk_resolution.specs.Faults.{troubles_of}
use Rattle.vk_resolution.specs.Planner.{inputs_of}
use Rattle.vk_resolution.proofs.Members.{contains_single, and_true}
use Rattle.vk_model.specs.SettingViews.{setting_view}
use Rattle.vk_close.specs.declared.page_askers.PageAsker.{PageAsker}
use Rattle.vk_close.specs.Kept.{HasNoTrouble, IsKept, Tells, Tracks}

and_left : (a b : Bool) → (a && b) ≡ true → a ≡ true
and_left true b e = refl
and_left false b e = (cc)

and_right : (a b : Bool) → (a && b) ≡ true → b ≡ true
and_right true b e = e
and_right false b e = (cc)

-- nothing was wrong so far, and nothing is wrong with the fact
pub tracks_more : (o : Option Pages) (old seen new : PageAsker) (clear : Bool) (x : Fact) (taken more : List Fact) → more ≡ taken ++ x ∷ [] → seen.setting ≡ old.setting → seen.clean ≡ old.clean → new ≡ record seen { clean = seen.clean && clear }
    → IfSome o (λ pages. Tracks old pages taken) → IfSome o (λ pages. IsKept seen pages) → IfSome o (λ pages. Tells clear (troubles_of (inputs_of (setting_view old.setting.now) pages) x ≡ [])) → IfSome o (λ pages. Tracks new pages more)
tracks_more None old seen new clear x taken more next same clean is tracks kept clears = tt
tracks_more (Some pages) old seen new clear x taken more next same clean is tracks kept clears =
    subst (λ a. Tracks a pages more) (sym is) (record {
      kept = record { rules = kept.rules; overrides = kept.overrides; known = kept.known };
      clean = (
        (λ e y h. subst (λ s. troubles_of (inputs_of (setting_view s.now) pages) y ≡ []) (sym same)
            (elim (Contains-append_cases taken (x ∷ []) y (subst (λ l. Contains l y) next h)) [
              | inl before ↦ tracks.clean.0 (sym clean ∙ and_left seen.clean clear e) y before
              | inr last ↦ subst (λ z. troubles_of (inputs_of (setting_view old.setting.now) pages) z ≡ []) (contains_single x y last) (clears.0 (and_right seen.clean clear e))
            ])),
        (λ none. and_true seen.clean clear
            (clean ∙ tracks.clean.1 (λ y h. was_none none y (subst (λ l. Contains l y) (sym next) (Contains-append_left taken (x ∷ []) y h))))
            (clears.1 (was_none none x (subst (λ l. Contains l x) (sym next) (Contains-append_right taken (x ∷ []) x (contains_first x [])))))),
      );
    })
  where
    was_none : HasNoTrouble (inputs_of (setting_view seen.setting.now) pages) more → (y : Fact) → Contains more y → troubles_of (inputs_of (setting_view old.setting.now) pages) y ≡ []
    was_none none y h = subst (λ s. troubles_of (inputs_of (setting_view s.now) pages) y ≡ []) same (none y h)
