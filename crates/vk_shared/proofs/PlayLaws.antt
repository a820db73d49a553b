-- What a turn keeps.
use Rattle.std.proofs.Common.{◌≡◌, ◌≢◌, inl, inr, false, ℕ, zero, suc, List, [], ◌∷◌, length, refl, ap, sym, ◌∙◌, subst}
use Rattle.std.specs.Prelude.{Option, Some, None, Result, Ok, Err, IfSome, slice_get}
use Rattle.std.proofs.lemmas.Bool.{cases_eq}
use Rattle.vk_base.specs.declared.memory.Memory.{Memory}
use Rattle.vk_base.specs.declared.stops.Outage.{Outage}
use Rattle.vk_base.specs.declared.stops.Outage.TheVariants as outage
use Rattle.vk_spec.specs.Paths.{Path}
use Rattle.vk_spec.specs.Files.{Files, IsTree}
use Rattle.vk_spec.specs.States.{Told, State}
use Rattle.vk_spec.specs.Standing.{disk_of}
use Rattle.vk_spec.specs.Calls.{Answer, Call, Content, Made, Output, ToldBecomes, fails, is_failed, lacks, noted_by, refuses}
use Rattle.vk_entry.specs.Packages.{File}
use Rattle.vk_protocol.specs.Protocols.{Protocol, Reply, answer_of, asks, ends}
use Rattle.vk_protocol.specs.Runs.{Stops}
use Rattle.vk_protocol.specs.Turns.{Called, Left, failed, goes, lacked, replied, stopped}
use Rattle.vk_publish.specs.Shared.{Pair}
use Rattle.vk_make.specs.Makes.{AllMade}
use Rattle.vk_make.specs.Several.{AreInstallers, Installer, StaysWhole, meant_of}
use Rattle.vk_make.proofs.FewFiles.{meant_calm}
use Rattle.vk_make.proofs.SeveralLaw.{AreKept, kept_can, kept_same, kept_start, kept_stop, kept_turns, kept_whole}
use Rattle.vk_shared.specs.MakeMachine.{CanGo, make_left, stage_of}
use Rattle.vk_shared.specs.Plays.{CanPlay, CanTake, MakesCall, MayPlay, PlayTurn, Plays, PlaysWhole, TakesTurn, lefts_of}
use Rattle.vk_shared.specs.declared.makings.Making.{Making}
use Rattle.vk_shared.specs.declared.makings.Stage.{Stage}
use Rattle.vk_shared.specs.declared.makings.Stage.TheVariants as stage
use Rattle.vk_shared.proofs.PlayLists.{left_at, left_same}

abbrev On : (Files → Type 0) → Option Told → Type 0
On P o = IfSome o (λ t. P t.files)

-- what the answer of a call leaves
made_on : (P Q : Files → Type 0) (call : Call) (answer : Answer (Output call)) (x y : Option Told) → ((f g : Files) → Content call answer f g → IsTree g → P f → Q g)
    → ToldBecomes (noted_by call answer) (Content call answer) x y → IfSome y (λ t. IsTree t.files) → On P x → On Q y
made_on P Q call answer None y more made tree h = subst (λ (o : Option Told). On Q o) (sym made) tt
made_on P Q call answer (Some t) None more made tree h = absurd made
made_on P Q call answer (Some t) (Some u) more made tree h = more t.files u.files made.1 tree h

on_then : (P Q : Files → Type 0) (o : Option Told) → ((f : Files) → P f → Q f) → On P o → On Q o
on_then P Q None more h = tt
on_then P Q (Some t) more h = more t.files h

-- ---- the calls of one, as turns of several

module _ (pairs : List Pair) (cache : Path) (who : List Installer) where
  abbrev pub Kept : List (Left AllMade) → Files → Type 0
  Kept lefts f = AreInstallers pairs who × AreKept pairs cache who f lefts

  module _ (w : ℕ) (before after : List (Left AllMade)) (others : (other : ℕ) → other ≢ w → slice_get after other ≡ slice_get before other) where
    turned : (call : Call) (k : Reply call → Protocol AllMade) (next : Left AllMade) (f g : Files) → slice_get before w ≡ Some (goes (asks call k)) → slice_get after w ≡ Some next → Called call k f g next → Kept before f → Kept after g
    turned call k next f g was is made kept = (kept.0, kept_turns pairs cache who kept.0 (suc zero) f g before after kept.1 (g, after, record { who = w; call = call; k = k; was = was; next = next; is = is; made = made; others = others }, (refl, refl)))

    stays : (f g : Files) → slice_get after w ≡ Some stopped → g ≡ f → Kept before f → Kept after g
    stays f g is same kept = (kept.0, subst (λ h. AreKept pairs cache who h after) (sym same) (kept_stop pairs cache who f before after w is others kept.1))

    -- a call that has a reply
    call_replied : (call : Call) (k : Reply call → Protocol AllMade) (reply : Reply call) (s t : State) → slice_get before w ≡ Some (goes (asks call k)) → slice_get after w ≡ Some (goes (k reply)) → Made call (answer_of call reply) s t → On (Kept before) s.told → On (Kept after) t.told
    call_replied call k reply s t was is made kept = made_on (Kept before) (Kept after) call (answer_of call reply) s.told t.told
        (λ f g content tree h. turned call k (goes (k reply)) f g was is (replied reply (record { says = content.0; small = made.small; leaves = content.1 }) tree) h) made.content made.tree_after kept

    -- a call after which memory ran out
    call_lacked : (call : Call) (k : Reply call → Protocol AllMade) (answer : Answer (Output call)) (s t : State) → slice_get before w ≡ Some (goes (asks call k)) → slice_get after w ≡ Some stopped → Made call answer s t → is_failed answer ≡ false → On (Kept before) s.told → On (Kept after) t.told
    call_lacked call k (Ok x) s t was is made calm kept = made_on (Kept before) (Kept after) call (Ok x) s.told t.told
        (λ f g content tree h. turned call k stopped f g was is (lacked (Ok x) (record { says = content.0; small = made.small; leaves = content.1 }) tree) h) made.content made.tree_after kept
    call_lacked call k (Err (refuses r)) s t was is made calm kept = made_on (Kept before) (Kept after) call (Err (refuses r)) s.told t.told
        (λ f g content tree h. turned call k stopped f g was is (lacked (Err r) (record { says = content.0; small = made.small; leaves = content.1 }) tree) h) made.content made.tree_after kept
    call_lacked call k (Err fails) s t was is made calm kept = (cc)
    call_lacked call k (Err lacks) s t was is made calm kept = made_on (Kept before) (Kept after) call (Err lacks) s.told t.told (λ f g content tree h. stays f g is content.1 h) made.content made.tree_after kept

    call_failed : (call : Call) (k : Reply call → Protocol AllMade) (s t : State) → slice_get before w ≡ Some (goes (asks call k)) → slice_get after w ≡ Some stopped → Made call (Err fails) s t → On (Kept before) s.told → On (Kept after) t.told
    call_failed call k s t was is made kept = made_on (Kept before) (Kept after) call (Err fails) s.told t.told
        (λ f g content tree h. turned call k stopped f g was is (failed content.1 tree) h) made.content made.tree_after kept

    nothing_done : (s t : State) → slice_get after w ≡ Some stopped → t ≡ s → On (Kept before) s.told → On (Kept after) t.told
    nothing_done s t is same kept = subst (λ (x : State). On (Kept after) x.told) (sym same) (on_then (Kept before) (Kept after) s.told (λ f h. stays f f is refl h) kept)

    call_stopped : (call : Call) (k : Reply call → Protocol AllMade) (e : Outage) (s t : State) → slice_get before w ≡ Some (goes (asks call k)) → slice_get after w ≡ Some stopped → Stops call e s t → On (Kept before) s.told → On (Kept after) t.told
    call_stopped call k outage.Failed s t was is made kept = call_failed call k s t was is made kept
    call_stopped call k (outage.Memory m) s t was is (inl same) kept = nothing_done s t is same kept
    call_stopped call k (outage.Memory m) s t was is (inr made) kept = call_lacked call k made.0 s t was is made.1 made.2 kept

    -- any call
    call_kept : (left next : Left AllMade) (s t : State) → slice_get before w ≡ Some left → slice_get after w ≡ Some next → MakesCall left s next t → On (Kept before) s.told → On (Kept after) t.told
    call_kept stopped next s t was is (result, made) kept = absurd made
    call_kept (goes p) stopped s t was is (Ok u, made) kept = absurd made
    call_kept (goes (ends x)) (goes q) s t was is (Ok u, made) kept = absurd made
    call_kept (goes (asks call k)) (goes q) s t was is (Ok u, made) kept = call_replied call k made.0 s t was (is ∙ ap (λ p. Some (goes p)) made.2) made.1 kept
    call_kept (goes (ends x)) next s t was is (Err e, made) kept = nothing_done s t (is ∙ ap (λ l. Some l) made.1) made.0.1 kept
    call_kept (goes (asks call k)) next s t was is (Err e, made) kept = call_stopped call k e s t was (is ∙ ap (λ l. Some l) made.1) made.0 kept

  -- ---- the turns of installers

  abbrev pub KeptOn : List (List (List File)) → List Making → State → Type 0
  KeptOn meant all s = On (Kept (lefts_of meant all)) s.told

  module _ (meant : List (List (List File))) (w : ℕ) (packages : List (List File)) (m n : Making) (before after : List Making) (s t : State) (means : slice_get meant w ≡ Some packages) (was : slice_get before w ≡ Some m) (is : slice_get after w ≡ Some n) (others : (other : ℕ) → other ≢ w → slice_get after other ≡ slice_get before other) where
    idle_same : n ≡ m → (v : ℕ) → slice_get after v ≡ slice_get before v
    idle_same idle v = elim (cases_eq v w) [
      | inl same ↦ (ap (slice_get after) same ∙ is ∙ ap (λ (x : Making). Some x) idle ∙ sym was ∙ ap (slice_get before) (sym same))
      | inr other ↦ (others v other)
    ]

    idle_kept : (n ≡ m) × (t ≡ s) → KeptOn meant before s → KeptOn meant after t
    idle_kept idle kept = subst (λ (x : State). KeptOn meant after x) (sym idle.1)
        (on_then (Kept (lefts_of meant before)) (Kept (lefts_of meant after)) s.told (λ f h. (h.0, kept_same pairs cache who f (lefts_of meant before) (lefts_of meant after) (λ v. left_same meant before after v (idle_same idle.0 v)) h.1)) kept)

    takes_kept : (st : Stage) → TakesTurn st packages m s n t → KeptOn meant before s → KeptOn meant after t
    takes_kept stage.Calls takes kept = call_kept w (lefts_of meant before) (lefts_of meant after) (λ other differs. left_same meant before after other (others other differs)) (make_left (meant_of packages) m) (make_left (meant_of packages) n) s t (left_at meant before w packages m means was) (left_at meant after w packages n means is) takes kept
    takes_kept (stage.Builds place) takes kept = idle_kept takes kept
    takes_kept stage.Done takes kept = idle_kept takes kept
    takes_kept stage.Ended takes kept = idle_kept takes kept

  turn_kept : (meant : List (List (List File))) (w : ℕ) (result : Result (Unit {0}) Memory) (before after : List Making) (s t : State) → PlayTurn meant w result before s after t → KeptOn meant before s → KeptOn meant after t
  turn_kept meant w result before after s t turn kept = takes_kept meant w turn.packages turn.m turn.n before after s t turn.means turn.was turn.is turn.others (stage_of turn.m) turn.takes kept

  go_can : (lefts : List (Left AllMade)) (w : ℕ) (left : Left AllMade) (f : Files) → slice_get lefts w ≡ Some left → Kept lefts f → CanGo left (disk_of f)
  go_can lefts w (goes p) f is h = kept_can pairs cache who f lefts w p h.1 is
  go_can lefts w stopped f is h = tt

  next_can : (meant : List (List (List File))) (all : List Making) (w : ℕ) (s : State) → KeptOn meant all s → CanTake meant w all s
  next_can meant all w s kept packages m means is = on_then (Kept (lefts_of meant all)) (λ f. CanGo (make_left (meant_of packages) m) (disk_of f)) s.told (λ f h. go_can (lefts_of meant all) w (make_left (meant_of packages) m) f (left_at meant all w packages m means is) h) kept

  start_kept : (meant : List (List (List File))) (all : List Making) (s : State) → On (CanPlay pairs cache who meant all) s.told → KeptOn meant all s
  start_kept meant all s can = on_then (CanPlay pairs cache who meant all) (Kept (lefts_of meant all)) s.told (λ f c. (c.installers, kept_start pairs cache who meant_calm c.agrees c.installers f (lefts_of meant all) c.starts c.sound)) can

  end_whole : (meant : List (List (List File))) (all : List Making) (s : State) → KeptOn meant all s → On (λ f. StaysWhole pairs cache who f (lefts_of meant all)) s.told
  end_whole meant all s kept = on_then (Kept (lefts_of meant all)) (λ f. StaysWhole pairs cache who f (lefts_of meant all)) s.told (λ f h. kept_whole pairs cache who f (lefts_of meant all) h.1) kept

-- ---- the play so far

-- of whichever the premises held at the start
abbrev KeptSince : List (List (List File)) → List Making → State → List Making → State → Type 0
KeptSince meant start s all t = (pairs : List Pair) (cache : Path) (who : List Installer) → On (CanPlay pairs cache who meant start) s.told → KeptOn pairs cache who meant all t

-- as many installers as before, what is kept, and how the turns of what is left complete those of the whole
pub record PlayedSoFar (meant : List (List (List File))) (order : List ℕ) (start : List Making) (s : State) (rest : List ℕ) (all : List Making) (t : State) : Type 0 where
  pub long : length all ≡ length start
  pub kept : KeptSince meant start s all t
  pub leads : (result : Result (Unit {0}) Memory) (after : List Making) (u : State) → Plays meant rest result all t after u → Plays meant order result start s after u

module _ (meant : List (List (List File))) (order : List ℕ) (start : List Making) (s : State) where
  pub play_starts : PlayedSoFar meant order start s order start s
  play_starts = record {
    long = refl;
    kept = λ pairs cache who can. start_kept pairs cache who meant start s can;
    leads = λ result after u plays. plays;
  }

  may_by : (o : Option Told) (all : List Making) (t : State) (w : ℕ) → IfSome o (λ x. (pairs : List Pair) × (cache : Path) × (who : List Installer) × CanPlay pairs cache who meant start x.files)
      → ((pairs : List Pair) (cache : Path) (who : List Installer) → On (CanPlay pairs cache who meant start) o → KeptOn pairs cache who meant all t) → CanTake meant w all t
  may_by None all t w may kept = next_can [] [] [] meant all w t (kept [] [] [] tt)
  may_by (Some x) all t w may kept = next_can may.0 may.1 may.2 meant all w t (kept may.0 may.1 may.2 may.3)

  whole_by : (o : Option Told) (all : List Making) (t : State) → ((pairs : List Pair) (cache : Path) (who : List Installer) → On (CanPlay pairs cache who meant start) o → KeptOn pairs cache who meant all t)
      → IfSome o (λ x. (pairs : List Pair) (cache : Path) (who : List Installer) → CanPlay pairs cache who meant start x.files → IfSome t.told (λ y. StaysWhole pairs cache who y.files (lefts_of meant all)))
  whole_by None all t kept = tt
  whole_by (Some x) all t kept = λ pairs cache who can. end_whole pairs cache who meant all t (kept pairs cache who can)

  module _ (rest : List ℕ) (all : List Making) (t : State) where
    pub play_may : (w : ℕ) → MayPlay meant start s → PlayedSoFar meant order start s rest all t → CanTake meant w all t
    play_may w may so_far = may_by s.told all t w may so_far.kept

    -- one more turn
    pub play_goes : (w : ℕ) (result : Result (Unit {0}) Memory) (v : Unit {0}) (more : List ℕ) (now : List Making) (u : State) → rest ≡ w ∷ more → length now ≡ length all → result ≡ Ok v → PlayTurn meant w result all t now u → PlayedSoFar meant order start s rest all t → PlayedSoFar meant order start s more now u
    play_goes w result v more now u split long is turn so_far = record {
      long = long ∙ so_far.long;
      kept = λ pairs cache who can. turn_kept pairs cache who meant w result all now t u turn (so_far.kept pairs cache who can);
      leads = λ r after x plays. so_far.leads r after x (subst (λ l. Plays meant l r all t after x) (sym split) (inr (now, u, subst (λ y. PlayTurn meant w y all t now u) is turn, plays)));
    }

    -- the law holds after any turn
    pub end_is_whole : (w : ℕ) (result : Result (Unit {0}) Memory) (now : List Making) (u : State) → PlayTurn meant w result all t now u → PlayedSoFar meant order start s rest all t → PlaysWhole meant start s now u
    end_is_whole w result now u turn so_far = whole_by s.told now u (λ pairs cache who can. turn_kept pairs cache who meant w result all now t u turn (so_far.kept pairs cache who can))

    -- and after all of them
    pub done_is_whole : PlayedSoFar meant order start s rest all t → PlaysWhole meant start s all t
    done_is_whole so_far = whole_by s.told all t so_far.kept
