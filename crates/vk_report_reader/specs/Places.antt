-- A report line by line: what may stand at each place, by the lines before it.
use Rattle.std.specs.Prelude.{◌≡◌, ◌≢◌, ◌⊎◌, ◌<◌, ◌+◌, ◌==◌, ◌++◌, ℕ, Bool, true, false, nat_lt, List, [], ◌∷◌, length, flat_map, Option, Some, None, codes, decimal, Result, Ok, Err, if◌then◌else◌}
use Rattle.std.proofs.Common.{inl, inr}
use Rattle.std.specs.Str.{IsUtf8}
use Rattle.vk_spec.specs.Earlies.{Early}
use Rattle.vk_base.specs.Paths.{Lacks}
use Rattle.vk_resolution.specs.Planning.{Item}
use Rattle.vk_resolution.specs.Reasons.{Reason}
use Rattle.vk_resolution.specs.Faults.{Fault}
use Rattle.vk_resolution.specs.Outcomes.{Outcome, planned, refused}
use Rattle.vk_resolution.specs.Lines.{ended, fault_line, item_text, reason_text}
use Rattle.vk_model.specs.Lines.{early_line}
use Rattle.vk_forms.specs.Choices.{either_text, IsRightEither}
use Rattle.vk_forms.specs.Lines.{IsLine, IsLineText}
use Rattle.vk_forms.specs.Words.{Any}
use Rattle.vk_report_reader.specs.Earlies.{IsRightEarly}
use Rattle.vk_report_reader.specs.Faults.{IsRightFault}
use Rattle.vk_report_reader.specs.Items.{IsRightItem}
use Rattle.vk_report_reader.specs.Reasons.{IsRightReason}

-- what stands before the reasons
pub data Body : Type 0 where
  plan_body : List Item → Body
  fault_body : List Fault → Body
  early_body : Early → Body

-- what a report comes to
abbrev pub outcome_of : Body → List Reason → Result Outcome Early
outcome_of (plan_body items) rs = Ok (planned items rs)
outcome_of (fault_body faults) rs = Ok (refused faults rs)
outcome_of (early_body early) rs = Err early

-- a place: what was read before it; a number says how many items, faults or reasons there are to be
pub data Place : Type 0 where
  start : Place
  status : Place
  item_count : Place
  fault_count : Place
  items : ℕ → List Item → Place
  only_fault : Place
  fault_lines : ℕ → List Fault → Place
  after_early : Early → Place
  reasons : Body → ℕ → List Reason → Place
  finished : Result Outcome Early → Place

-- a right value stands in the line, and the place that it leads to is next
pub record WantsAs {X : Type 0} (prints : X → List ℕ) (is_right : X → Type 0) (to : X → Place) (line : List ℕ) (next : Place) : Type 0 where
  pub value : X
  pub right : is_right value
  pub is : line ≡ prints value
  pub goes : next ≡ to value

-- a word, and a value after a blank
abbrev pub headed : {X : Type 0} → List ℕ → (X → List ℕ) → X → List ℕ
headed head prints x = head ++ codes " " ++ prints x

-- a value with the number of its line in front
abbrev pub numbered : {X : Type 0} → List X → (X → List ℕ) → X → List ℕ
numbered done prints x = headed (decimal (length done + 1)) prints x

abbrev pub after_status : Unit {0} ⊎ Unit {0} → Place
after_status (inl u) = item_count
after_status (inr u) = fault_count

-- where one line is to come, it may be an early line
abbrev pub after_fault_count : ℕ → Place
after_fault_count n = if n == 1 then only_fault else fault_lines n []

abbrev pub after_only : Fault ⊎ Early → Place
after_only (inl fault) = fault_lines 1 (fault ∷ [])
after_only (inr early) = after_early early

-- one of two wishes
abbrev pub pick : Bool → (List ℕ → Place → Type 0) → (List ℕ → Place → Type 0) → List ℕ → Place → Type 0
pick true one other = one
pick false one other = other

-- how many reasons there are to be
abbrev pub WantsCount : Body → List ℕ → Place → Type 0
WantsCount body = WantsAs (headed (codes "reasons") decimal) IsLine (λ n. reasons body n [])

-- which lines may stand at a place, and where each leads
abbrev pub Wants : Place → List ℕ → Place → Type 0
Wants start = WantsAs (λ u. codes "vcpkg-plan 1") Any (λ u. status)
Wants status = WantsAs (either_text (λ u. codes "status planned") (λ u. codes "status refused")) (IsRightEither Any Any) after_status
Wants item_count = WantsAs (headed (codes "plan") decimal) IsLine (λ n. items n [])
Wants fault_count = WantsAs (headed (codes "faults") decimal) (λ n. (0 < n) × IsLine n) after_fault_count
Wants (items n done) = pick (nat_lt (length done) n) (WantsAs (numbered done item_text) IsRightItem (λ x. items n (done ++ x ∷ []))) (WantsCount (plan_body done))
Wants only_fault = WantsAs (either_text fault_line early_line) (IsRightEither IsRightFault IsRightEarly) after_only
Wants (fault_lines n done) = pick (nat_lt (length done) n) (WantsAs fault_line IsRightFault (λ x. fault_lines n (done ++ x ∷ []))) (WantsCount (fault_body done))
Wants (after_early early) = WantsAs (λ u. codes "reasons 0") Any (λ u. reasons (early_body early) 0 [])
Wants (reasons body n done) = pick (nat_lt (length done) n) (WantsAs (numbered done reason_text) IsRightReason (λ x. reasons body n (done ++ x ∷ []))) (WantsAs (λ u. codes "end") Any (λ u. finished (outcome_of body done)))
Wants (finished outcome) = λ line next. ⊥

-- lines that lead from a place to another, each wanted where it stands
abbrev pub Goes : Place → List (List ℕ) → Place → Type 0
Goes place [] to = place ≡ to
Goes place (line ∷ lines) to = (next : Place) × (Wants place line next × Goes next lines to)

-- the bytes are a report of the outcome
pub record IsRead (bytes : List ℕ) (outcome : Result Outcome Early) : Type 0 where
  pub lines : List (List ℕ)
  pub split : bytes ≡ flat_map ended lines
  pub goes : Goes start lines (finished outcome)

-- the lines before this one are wanted where they stand, and no line that is wanted follows them; where they are a whole report, something follows
pub record IsRefusedAt (bytes : List ℕ) (n : ℕ) : Type 0 where
  pub lines : List (List ℕ)
  pub left : List ℕ
  pub place : Place
  pub split : bytes ≡ flat_map ended lines ++ left
  pub number : n ≡ length lines + 1
  pub goes : Goes start lines place
  pub unwanted : (line more : List ℕ) (next : Place) → IsLineText line → left ≡ ended line ++ more → Wants place line next → ⊥
  pub unfinished : (outcome : Result Outcome Early) → place ≡ finished outcome → left ≢ []

-- a line that is wanted and where it leads, or that it isn't wanted
abbrev pub AdvancesBy : (List ℕ → Place → Type 0) → List ℕ → Option Place → Type 0
AdvancesBy wish line (Some next) = wish line next
AdvancesBy wish line None = (next : Place) → wish line next → ⊥

abbrev pub Advances : Place → List ℕ → Option Place → Type 0
Advances place = AdvancesBy (Wants place)

abbrev pub CountsReasons : Body → List ℕ → Option Place → Type 0
CountsReasons body = AdvancesBy (WantsCount body)
