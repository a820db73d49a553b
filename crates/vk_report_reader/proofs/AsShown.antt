-- What a report shows of an outcome has the same report.
use Rattle.std.proofs.Common.{◌≡◌, ◌+◌, ◌++◌, ◌∷◌, ℕ, List, [], map, flat_map, refl, ap, subst, codes, ◌∙◌}
use Rattle.std.specs.Prelude.{Some, None, Result, Ok, Err, decimal}
use Rattle.std.proofs.lemmas.List.{length-map}
use Rattle.vk_spec.specs.Earlies.{Early}
use Rattle.vk_resolution.specs.Faults.{Fault, conflicts, has_cycle, isnt_supported, lacks_feature, troubled}
use Rattle.vk_resolution.specs.Lines.{counted, ended, fault_line, item_text, numbered_lines, reasons_text}
use Rattle.vk_resolution.specs.Outcomes.{Outcome, planned, refused}
use Rattle.vk_resolution.specs.Planning.{Item}
use Rattle.vk_report.specs.Reports.{whole_report}
use Rattle.vk_report_reader.specs.Cuts.{Ends, IsOutcome, Reading}
use Rattle.vk_report_reader.specs.Places.{IsRead}
use Rattle.vk_report_reader.specs.Showable.{IsShowable, printed_fault, printed_item, shown}
use Rattle.vk_report_reader.proofs.OneOutcome.{read_only_so}
use Rattle.vk_report_reader.proofs.ReadAgain.{read_again}

fault_same : (fault : Fault) → fault_line (printed_fault fault) ≡ fault_line fault
fault_same (troubled trouble n) = refl
fault_same (conflicts p v n w m) = refl
fault_same (lacks_feature who f None n) = refl
fault_same (lacks_feature who f (Some v) n) = refl
fault_same (isnt_supported who f None n) = refl
fault_same (isnt_supported who f (Some v) n) = refl
fault_same (has_cycle walk) = refl

counted_same : {X : Type 0} (word : List ℕ) (print : X → X) (xs : List X) → counted word (map print xs) ≡ counted word xs
counted_same word print xs = ap (λ n. ended (word ++ codes " " ++ decimal n)) (length-map xs print)

items_same : (n : ℕ) (items : List Item) → numbered_lines item_text n (map printed_item items) ≡ numbered_lines item_text n items
items_same n [] = refl
items_same n (item ∷ items) = ap (λ l. ended (decimal n ++ codes " " ++ item_text item) ++ l) (items_same (n + 1) items)

faults_same : (faults : List Fault) → flat_map (λ f. ended (fault_line f)) (map printed_fault faults) ≡ flat_map (λ f. ended (fault_line f)) faults
faults_same [] = refl
faults_same (fault ∷ faults) = rw (fault_same fault, faults_same faults) refl

pub same_report : (outcome : Result Outcome Early) → whole_report (shown outcome) ≡ whole_report outcome
same_report (Ok (planned items reasons)) =
    ap (λ c. codes "vcpkg-plan 1\nstatus planned\n" ++ c ++ numbered_lines item_text 1 (map printed_item items) ++ reasons_text reasons) (counted_same (codes "plan") printed_item items)
    ∙ ap (λ l. codes "vcpkg-plan 1\nstatus planned\n" ++ counted (codes "plan") items ++ l ++ reasons_text reasons) (items_same 1 items)
same_report (Ok (refused faults reasons)) =
    ap (λ c. codes "vcpkg-plan 1\nstatus refused\n" ++ c ++ flat_map (λ f. ended (fault_line f)) (map printed_fault faults) ++ reasons_text reasons) (counted_same (codes "faults") printed_fault faults)
    ∙ ap (λ l. codes "vcpkg-plan 1\nstatus refused\n" ++ counted (codes "faults") faults ++ l ++ reasons_text reasons) (faults_same faults)
same_report (Err early) = refl

pub read_as_shown : (outcome : Result Outcome Early) → IsShowable (shown outcome) → IsRead (whole_report outcome) (shown outcome)
read_as_shown outcome right = subst (λ bytes. IsRead bytes (shown outcome)) (same_report outcome) (read_again (shown outcome) right)

pub shown_only_so : (outcome : Result Outcome Early) → IsShowable (shown outcome) → (answer : Reading) → Ends (whole_report outcome) answer → IsOutcome (shown outcome) answer
shown_only_so outcome right answer ends = read_only_so (shown outcome) right answer (rw (same_report outcome) ends)
