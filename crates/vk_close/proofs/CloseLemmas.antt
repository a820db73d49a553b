-- The closure of a worklist that is closed.
use Rattle.std.proofs.Common.{◌≡◌, Bool, true, List, [], ◌∷◌, refl, ap, sym, subst, ◌∙◌}
use Rattle.std.specs.Prelude.{Option, Some, None, IfSome, Result, Ok, Err, IfOk, flat_map}
use Rattle.vk_spec.specs.Settings.{Setting}
use Rattle.vk_spec.proofs.ListLemmas.{contains_first, contains_later}
use Rattle.vk_base.specs.declared.stops.Outage.{Outage}
use Rattle.vk_resolution.specs.Givens.{Pages}
use Rattle.vk_resolution.specs.Keys.{in_order}
use Rattle.vk_resolution.specs.Asking.{Fact}
use Rattle.vk_resolution.specs.Consequences.{Inputs}
use Rattle.vk_resolution.specs.Faults.{troubles_of, trouble_key, told_of, first_faults_of}
use Rattle.vk_resolution.specs.Lines.{fault_line}
use Rattle.vk_resolution.specs.Outcomes.{lines_of}
use Rattle.vk_resolution.specs.Planner.{inputs_of}
use Rattle.vk_resolution.specs.Reasons.{Reason, IsReasons, facts_of}
use Rattle.vk_resolution.specs.Closures.{IsClosure}
use Rattle.vk_model.specs.SettingViews.{setting_view}
use Rattle.vk_model.specs.FactViews.{reasons_view}
use Rattle.vk_model.specs.FaultViews.{closure_view, faults_view}
use Rattle.vk_model.specs.declared.faults.Fault.{Fault}
use Rattle.vk_model.specs.declared.reasons.Closure.{Closure}
use Rattle.vk_close.specs.declared.page_askers.PageAsker.{PageAsker}
use Rattle.vk_close.specs.Kept.{Tracks, HasNoTrouble}

-- ---- faults

no_troubles : (inputs : Inputs) (facts : List Fact) → HasNoTrouble inputs facts → flat_map (troubles_of inputs) facts ≡ []
no_troubles inputs [] none = refl
no_troubles inputs (x ∷ facts) none = rw (none x (contains_first x facts)) (no_troubles inputs facts (λ y h. none y (contains_later x y facts h)))

no_faults : (inputs : Inputs) (facts : List Fact) → HasNoTrouble inputs facts → lines_of fault_line (first_faults_of inputs facts) ≡ []
no_faults inputs facts none = ap (λ ts. lines_of fault_line (flat_map (told_of inputs facts) (in_order trouble_key ts))) (no_troubles inputs facts none)

-- what is asked of the lines of the first phase, where the clean flag is so
abbrev pub AreTold : Bool → List Reason → List Fault → Pages → Type 0
AreTold clean reasons faults pages = (s : Setting) → IsReasons (inputs_of s pages) reasons → (clean ≡ true → HasNoTrouble (inputs_of s pages) (facts_of reasons))
    → faults_view faults ≡ lines_of fault_line (first_faults_of (inputs_of s pages) (facts_of reasons))

pub clean_told : (o : Option Pages) (clean : Bool) (reasons : List Reason) (faults : List Fault) → clean ≡ true → faults ≡ [] → IfSome o (AreTold clean reasons faults)
clean_told None clean reasons faults e none = tt
clean_told (Some pages) clean reasons faults e none = λ s is clears. ap faults_view none ∙ sym (no_faults (inputs_of s pages) (facts_of reasons) (clears e))

pub dirty_told : (o : Option Pages) (clean : Bool) (reasons : List Reason) (r : Result (List Fault) Outage)
    → IfOk r (λ faults. IfSome o (λ pages. (s : Setting) → IsReasons (inputs_of s pages) reasons → faults_view faults ≡ lines_of fault_line (first_faults_of (inputs_of s pages) (facts_of reasons))))
    → IfOk r (λ faults. IfSome o (AreTold clean reasons faults))
dirty_told o clean reasons (Err e) told = tt
dirty_told None clean reasons (Ok faults) told = tt
dirty_told (Some pages) clean reasons (Ok faults) told = λ s is clears. told s is

-- ---- the worklist

pub clean_of : (o : Option Pages) (a : PageAsker) (s : Setting) (facts : List Fact) (b : Bool) → b ≡ a.clean → setting_view a.setting.now ≡ s → IfSome o (λ pages. Tracks a pages facts)
    → IfSome o (λ pages. b ≡ true → HasNoTrouble (inputs_of s pages) facts)
clean_of None a s facts b is same tracks = tt
clean_of (Some pages) a s facts b is same tracks = λ e. subst (λ t. HasNoTrouble (inputs_of t pages) facts) same (tracks.clean.0 (sym is ∙ e))

-- ---- the closure

pub closure_is : (o : Option Pages) (s : Setting) (c : Closure) (clean : Bool) (lines : List Reason) → reasons_view c.reasons ≡ lines → IfSome o (λ pages. IsReasons (inputs_of s pages) lines)
    → IfSome o (λ pages. clean ≡ true → HasNoTrouble (inputs_of s pages) (facts_of lines)) → IfSome o (AreTold clean (reasons_view c.reasons) c.faults) → IfSome o (λ pages. IsClosure (inputs_of s pages) fault_line (closure_view c))
closure_is None s c clean lines same is clears told = tt
closure_is (Some pages) s c clean lines same is clears told =
    let reasons : IsReasons (inputs_of s pages) (reasons_view c.reasons) = subst (IsReasons (inputs_of s pages)) (sym same) is in
    record { reasons = reasons; faults = told s reasons (subst (λ l. clean ≡ true → HasNoTrouble (inputs_of s pages) (facts_of l)) (sym same) clears) }
