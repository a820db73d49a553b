-- A line that may stand in a report has visible characters of ASCII and blanks alone, so it is a text without a line feed.
use Rattle.std.proofs.Common.{◌≡◌, ◌++◌, ◌∷◌, ℕ, true, List, [], refl, sym, subst, codes}
use Rattle.std.specs.Prelude.{decimal}
use Rattle.std.specs.List.{All}
use Rattle.std.proofs.lemmas.List.Elements.{All-head, All-tail}
use Rattle.vk_spec.specs.Versions.{ask_of}
use Rattle.vk_base.specs.Names.{IsName, port_rule, word_rule}
use Rattle.vk_base.specs.Printed.{field_word, path_text, version_text}
use Rattle.vk_base.specs.Tokens.{token_of}
use Rattle.vk_json.specs.Places.{place_text}
use Rattle.vk_model.specs.Lines.{early_line, features_text}
use Rattle.vk_resolution.specs.Asking.{Fact, need, floor, visit}
use Rattle.vk_resolution.specs.Consequences.{Cause}
use Rattle.vk_resolution.specs.Faults.{conflicts, differs, has_cycle, isnt_supported, lacks_baseline, lacks_feature, lacks_registry, lacks_version, troubled, unreadable}
use Rattle.vk_resolution.specs.Lines.{cause_text, fault_line, item_text, reason_text, version_or_none}
use Rattle.vk_forms.specs.Lines.{IsLine}
use Rattle.vk_report_reader.specs.Causes.{IsFloorCause, IsNeedCause, IsVisitCause}
use Rattle.vk_report_reader.specs.Cycles.{IsWalk, walk_text}
use Rattle.vk_report_reader.specs.Earlies.{IsRightEarly}
use Rattle.vk_forms.specs.Words.{IsWord}
use Rattle.vk_report_reader.specs.Faults.{IsRightFault}
use Rattle.vk_forms.specs.Features.{AreFeatures}
use Rattle.vk_forms.specs.Forms.{pair_text, IsRightPair}
use Rattle.vk_report_reader.specs.Items.{IsRightItem}
use Rattle.vk_forms.specs.Names.{IsPortIfAny, IsRightInstance, port_or_root}
use Rattle.vk_forms.specs.Paths.{IsPlace, IsRightPath}
use Rattle.vk_forms.specs.Words.{Any}
use Rattle.vk_report_reader.specs.Reasons.{IsFloorReason, IsNeedReason, IsRightReason, IsVisitReason}
use Rattle.vk_forms.specs.Texts.{IsText}
use Rattle.vk_forms.specs.Versions.{IsRightAsk, IsRightIfAny, IsRightVersion}
use Rattle.vk_report_reader.proofs.ApartLines.{bad_words_are}
use Rattle.vk_report_reader.proofs.CauseForms as causes
use Rattle.vk_report_reader.proofs.CycleForms.{cycle_parts_are, one_text, two_text}
use Rattle.vk_report_reader.proofs.EarlyForms.{IsBlockedLine, IsFileLine, IsFolderLine, IsOverlapLine, IsTripletLine, blocked_text, early_words_are, file_text, folder_text, overlap_text, triplet_text}
use Rattle.vk_report_reader.proofs.FaultForms as faults
use Rattle.vk_report_reader.proofs.ItemForms.{item_parts_are}
use Rattle.vk_report_reader.proofs.ReasonForms as reasons
use Rattle.vk_forms.proofs.Through.{parts_hold}
use Rattle.vk_forms.proofs.WordForms.{are_plain}
use Rattle.vk_forms.proofs.Shown.{AreShown, IsShown, ask, either_shown, features, field, if_any, name, number, pair_shown, path, place, port, spaced_shown, text, version, why, word}

walk : AreShown walk_text IsWalk
walk [] right = absurd right
walk (i ∷ []) right =
    let one = All-head IsRightInstance i [] right in
    subst (All IsShown) (sym (one_text i)) (spaced_shown (token_of i.port) (token_of i.triplet) (name port_rule i.port one.0) (name word_rule i.triplet one.1))
walk (i ∷ j ∷ is) right =
    let one = All-head IsRightInstance i (j ∷ is) right in
    let later = walk (j ∷ is) (All-tail IsRightInstance i (j ∷ is) right) in
    subst (All IsShown) (sym (two_text i j is))
    (spaced_shown (token_of i.port) (token_of i.triplet ++ 32 ∷ walk_text (j ∷ is)) (name port_rule i.port one.0)
    (spaced_shown (token_of i.triplet) (walk_text (j ∷ is)) (name word_rule i.triplet one.1) later))

-- ---- causes and reasons

cited : (w : List ℕ) → are_plain w ≡ true → AreShown (pair_text 32 (λ u. w) decimal) (IsRightPair 32 (λ u. w) Any IsLine)
cited w plain = pair_shown (λ u. w) decimal Any IsLine (word w plain) number

need_cause : AreShown cause_text IsNeedCause
need_cause = parts_hold causes.need_parts (All IsShown) (either_shown (λ u. codes "root") _ Any _ (word (codes "root") refl) (cited (codes "from") refl))

floor_cause : AreShown cause_text IsFloorCause
floor_cause = parts_hold causes.floor_parts (All IsShown)
    (either_shown (causes.cited_text (codes "baseline")) _ (causes.IsCited (codes "baseline")) _ (cited (codes "baseline") refl)
    (either_shown (causes.cited_text (codes "override")) _ (causes.IsCited (codes "override")) _ (cited (codes "override") refl)
    (either_shown (causes.cited_text (codes "overlay")) _ (causes.IsCited (codes "overlay")) _ (cited (codes "overlay") refl) (cited (codes "minimum") refl))))

visit_cause : AreShown cause_text IsVisitCause
visit_cause = parts_hold causes.visit_parts (All IsShown) (pair_shown (λ u. codes "from") _ Any _ (word (codes "from") refl) (pair_shown decimal decimal IsLine IsLine number number))

need_reason : AreShown reason_text IsNeedReason
need_reason = parts_hold reasons.need_parts_are (All IsShown)
    (pair_shown (λ u. codes "need") _ Any _ (word (codes "need") refl)
    (pair_shown port_or_root _ IsPortIfAny _ port
    (pair_shown token_of _ (IsName word_rule) _ (name word_rule)
    (pair_shown token_of cause_text (IsName word_rule) IsNeedCause (name word_rule) need_cause))))

floor_reason : AreShown reason_text IsFloorReason
floor_reason = parts_hold reasons.floor_parts_are (All IsShown)
    (pair_shown (λ u. codes "floor") _ Any _ (word (codes "floor") refl)
    (pair_shown token_of _ (IsName port_rule) _ (name port_rule)
    (pair_shown version_text cause_text IsRightAsk IsFloorCause ask floor_cause)))

visit_reason : AreShown reason_text IsVisitReason
visit_reason = parts_hold reasons.visit_parts_are (All IsShown)
    (pair_shown (λ u. codes "visit") _ Any _ (word (codes "visit") refl)
    (pair_shown token_of _ (IsName port_rule) _ (name port_rule)
    (pair_shown token_of _ (IsName word_rule) _ (name word_rule)
    (pair_shown token_of _ (IsName word_rule) _ (name word_rule)
    (pair_shown version_text cause_text IsRightAsk IsVisitCause ask visit_cause)))))

reason_of : (x : Fact) (c : Cause ℕ) → IsRightReason (record { fact = x; cause = c }) → All IsShown (reason_text (record { fact = x; cause = c }))
reason_of (need who f) c right = need_reason (record { fact = need who f; cause = c }) (tt, right)
reason_of (floor p a) c right = floor_reason (record { fact = floor p a; cause = c }) (tt, right)
reason_of (visit i f a) c right = visit_reason (record { fact = visit i f a; cause = c }) (tt, right)

pub reason_shown : AreShown reason_text IsRightReason
reason_shown r right = reason_of r.fact r.cause right

pub item_shown : AreShown item_text IsRightItem
item_shown = parts_hold item_parts_are (All IsShown)
    (pair_shown token_of _ (IsName port_rule) _ (name port_rule)
    (pair_shown token_of _ (IsName word_rule) _ (name word_rule)
    (pair_shown (λ v. version_text (ask_of v)) _ IsRightVersion _ version
    (pair_shown decimal features_text IsLine AreFeatures number features))))

-- ---- faults and early lines

named_number : (w : List ℕ) → are_plain w ≡ true → AreShown (pair_text 32 (λ u. w) (pair_text 32 token_of decimal)) (IsRightPair 32 (λ u. w) Any (IsRightPair 32 token_of (IsName port_rule) IsLine))
named_number w plain = pair_shown (λ u. w) _ Any _ (word w plain) (pair_shown token_of decimal (IsName port_rule) IsLine (name port_rule) number)

judged : (w : List ℕ) → are_plain w ≡ true
    → AreShown (pair_text 32 (λ u. w) (pair_text 32 port_or_root (pair_text 32 token_of (pair_text 32 token_of (pair_text 32 version_or_none decimal)))))
    (IsRightPair 32 (λ u. w) Any (IsRightPair 32 port_or_root IsPortIfAny (IsRightPair 32 token_of (IsName word_rule) (IsRightPair 32 token_of (IsName word_rule) (IsRightPair 32 version_or_none IsRightIfAny IsLine)))))
judged w plain =
    pair_shown (λ u. w) _ Any _ (word w plain)
    (pair_shown port_or_root _ IsPortIfAny _ port
    (pair_shown token_of _ (IsName word_rule) _ (name word_rule)
    (pair_shown token_of _ (IsName word_rule) _ (name word_rule)
    (pair_shown version_or_none decimal IsRightIfAny IsLine if_any number))))

pub fault_shown : AreShown fault_line IsRightFault
fault_shown (troubled (lacks_registry p) n) right = parts_hold faults.no_registry_parts_are (All IsShown) (named_number (codes "no-registry") refl) (troubled (lacks_registry p) n) (tt, right)
fault_shown (troubled (lacks_baseline p) n) right = parts_hold faults.no_baseline_parts_are (All IsShown) (named_number (codes "no-baseline") refl) (troubled (lacks_baseline p) n) (tt, right)
fault_shown (troubled (unreadable path_in place_in word_in) n) right =
    parts_hold bad_words_are (All IsShown)
    (pair_shown (λ u. codes "bad-file") _ Any _ (word (codes "bad-file") refl)
    (pair_shown path_text _ IsRightPath _ path
    (pair_shown place_text _ IsPlace _ place
    (pair_shown (λ w. w) decimal IsWord IsLine why number))))
    (troubled (unreadable path_in place_in word_in) n) (tt, right)
fault_shown (troubled (lacks_version p a) n) right =
    parts_hold faults.no_version_parts_are (All IsShown)
    (pair_shown (λ u. codes "no-version") _ Any _ (word (codes "no-version") refl)
    (pair_shown token_of _ (IsName port_rule) _ (name port_rule)
    (pair_shown version_text decimal IsRightAsk IsLine ask number)))
    (troubled (lacks_version p a) n) (tt, right)
fault_shown (troubled (differs path_in field_in row manifest) n) right =
    parts_hold faults.disagrees_parts_are (All IsShown)
    (pair_shown (λ u. codes "disagrees") _ Any _ (word (codes "disagrees") refl)
    (pair_shown path_text _ IsRightPath _ path
    (pair_shown field_word _ (λ f. Unit {0}) _ field
    (pair_shown token_of _ IsText _ text
    (pair_shown token_of decimal IsText IsLine text number)))))
    (troubled (differs path_in field_in row manifest) n) (tt, right)
fault_shown (conflicts p v n w m) right =
    parts_hold faults.conflict_parts_are (All IsShown)
    (pair_shown (λ u. codes "conflict") _ Any _ (word (codes "conflict") refl)
    (pair_shown token_of _ (IsName port_rule) _ (name port_rule)
    (pair_shown (λ x. version_text (ask_of x)) _ IsRightVersion _ version
    (pair_shown decimal _ IsLine _ number
    (pair_shown (λ x. version_text (ask_of x)) decimal IsRightVersion IsLine version number)))))
    (conflicts p v n w m) (tt, right)
fault_shown (lacks_feature who f v n) right = parts_hold faults.no_feature_parts_are (All IsShown) (judged (codes "no-feature") refl) (lacks_feature who f v n) (tt, right)
fault_shown (isnt_supported who f v n) right = parts_hold faults.unsupported_parts_are (All IsShown) (judged (codes "unsupported") refl) (isnt_supported who f v n) (tt, right)
fault_shown (has_cycle walk_in) right =
    parts_hold cycle_parts_are (All IsShown)
    (either_shown (λ u. codes "cycle") _ Any _ (word (codes "cycle") refl) (pair_shown (λ u. codes "cycle") walk_text Any IsWalk (word (codes "cycle") refl) walk))
    (has_cycle walk_in) (tt, right)

folder_shown : AreShown folder_text IsFolderLine
folder_shown = either_shown overlap_text blocked_text IsOverlapLine IsBlockedLine
    (pair_shown (λ u. codes "overlap") _ Any _ (word (codes "overlap") refl) (pair_shown path_text path_text IsRightPath IsRightPath path path))
    (pair_shown (λ u. codes "blocked") path_text Any IsRightPath (word (codes "blocked") refl) path)

pub early_shown : AreShown early_line IsRightEarly
early_shown = parts_hold early_words_are (All IsShown)
    (either_shown (λ u. codes "two-configurations") _ Any _ (word (codes "two-configurations") refl)
    (either_shown triplet_text _ IsTripletLine _
    (pair_shown (λ u. codes "no-triplet") token_of Any (IsName word_rule) (word (codes "no-triplet") refl) (name word_rule))
    (either_shown (file_text (λ w. w)) folder_text (IsFileLine IsWord) IsFolderLine
    (pair_shown (λ u. codes "bad-file") _ Any _ (word (codes "bad-file") refl)
    (pair_shown path_text _ IsRightPath _ path
    (pair_shown place_text (λ w. w) IsPlace IsWord place why)))
    folder_shown)))
