-- A report is read line by line.
use Rattle.std.proofs.Common.{◌≡◌, ◌≢◌, ◌++◌, ◌∷◌, ◌<◌, ◌+◌, ◌^◌, ℕ, Bool, true, false, Decides, List, [], length, length-append, refl, ap, sym, ◌∙◌, subst, append_assoc, arith, codes}
use Rattle.std.specs.Prelude.{flat_map, not, IfSome, Result, Err}
use Rattle.vk_base.specs.Stops.{fault_in}
use Rattle.vk_base.specs.declared.stops.Unread.{Unread}
use Rattle.vk_base.specs.declared.stops.Unread.TheVariants as unread
use Rattle.vk_report_reader.specs.declared.reports.ReportFault.{ReportFault}
use Rattle.vk_report_reader.specs.PlaceViews.{line_in}
use Rattle.std.proofs.lemmas.List.{append-nil}
use Rattle.std.proofs.lemmas.Grind.{flat_map-append}
use Rattle.vk_base.specs.Paths.{Lacks}
use Rattle.vk_resolution.specs.Lines.{ended}
use Rattle.vk_spec.specs.Earlies.{Early}
use Rattle.vk_resolution.specs.Outcomes.{Outcome}
use Rattle.vk_forms.specs.Lines.{NoLine}
use Rattle.vk_report_reader.specs.Cuts.{Ends, Led}
use Rattle.vk_report_reader.specs.Places.{Goes, IsRead, IsRefusedAt, Place, Wants, finished, start, status}
use Rattle.vk_forms.proofs.LineLemmas.{ended_line}
use Rattle.vk_forms.proofs.PairForms.{same_pair}

goes_on : (from place next : Place) (lines : List (List ℕ)) (line : List ℕ) → Goes from lines place → Wants place line next → Goes from (lines ++ line ∷ []) next
goes_on from place next [] line here wants = (next, (subst (λ p. Wants p line next) (sym here) wants, refl))
goes_on from place next (l ∷ lines) line goes wants = (goes.0, (goes.1.0, goes_on goes.0 place next lines line goes.1.1 wants))

lines_more : (lines : List (List ℕ)) (line rest : List ℕ) → flat_map ended lines ++ (line ++ 10 ∷ rest) ≡ flat_map ended (lines ++ line ∷ []) ++ rest
lines_more lines line rest =
    ap (λ l. flat_map ended lines ++ l) (sym (ended_line line rest))
    ∙ sym (append_assoc (flat_map ended lines) (ended line) rest)
    ∙ ap (λ l. (flat_map ended lines ++ l) ++ rest) (sym (append-nil (ended line)))
    ∙ ap (λ l. l ++ rest) (sym (flat_map-append ended lines (line ∷ [])))

pub led_start : (bytes : List ℕ) → length bytes < 2 ^ 32 → (line rest : List ℕ) → bytes ≡ line ++ 10 ∷ rest → line ≡ codes "vcpkg-plan 1" → Led bytes status rest 2
led_start bytes small line rest cut is =
    let count = ap length cut in
    let parts = length-append line (10 ∷ rest) in
    let twelve : length line ≡ 12 = ap length is in record {
      lines = line ∷ [];
      split = cut ∙ lines_more [] line rest;
      goes = (status, (record { value = tt; right = tt; is = is; goes = refl }, refl));
      count = refl;
      room = omega (arith, small, count, parts, twelve);
    }

pub led_more : (bytes : List ℕ) (place next : Place) (left line rest : List ℕ) (number : ℕ) → Led bytes place left number → left ≡ line ++ 10 ∷ rest → Wants place line next → Led bytes next rest (number + 1)
led_more bytes place next left line rest number led cut wants =
    let parts = length-append line (10 ∷ rest) in
    let count = ap length cut in
    let lines = length-append led.lines (line ∷ []) in
    let before = led.count in
    let room = led.room in record {
      lines = led.lines ++ line ∷ [];
      split = led.split ∙ ap (λ l. flat_map ended led.lines ++ l) cut ∙ lines_more led.lines line rest;
      goes = goes_on start place next led.lines line led.goes wants;
      count = omega (arith, before, lines);
      room = omega (arith, room, count, parts);
    }

not_empty : (line rest : List ℕ) → line ++ 10 ∷ rest ≢ []
not_empty [] rest e = (cc)
not_empty (x ∷ line) rest e = (cc)

-- the next line isn't wanted
pub led_refused : (bytes : List ℕ) (place : Place) (left line rest : List ℕ) (number : ℕ) → Led bytes place left number → left ≡ line ++ 10 ∷ rest → Lacks 10 line → ((next : Place) → Wants place line next → ⊥) → IsRefusedAt bytes number
led_refused bytes place left line rest number led cut whole none = record {
  lines = led.lines;
  left = left;
  place = place;
  split = led.split;
  number = led.count;
  goes = led.goes;
  unwanted = λ other more next is e wants.
      let same = same_pair 10 other line more rest is.whole whole (sym (ended_line other more) ∙ sym e ∙ cut) in
      none next (subst (λ l. Wants place l next) same.0 wants);
  unfinished = λ outcome e empty. not_empty line rest (sym cut ∙ empty);
}

-- no line follows
pub led_ends : (bytes : List ℕ) (place : Place) (left : List ℕ) (number : ℕ) → Led bytes place left number → NoLine left → ((outcome : Result Outcome Early) → place ≡ finished outcome → left ≢ []) → IsRefusedAt bytes number
led_ends bytes place left number led none unfinished = record {
  lines = led.lines;
  left = left;
  place = place;
  split = led.split;
  number = led.count;
  goes = led.goes;
  unwanted = λ line more next is e wants. none line more is e;
  unfinished = unfinished;
}

pub led_read : (bytes : List ℕ) (place : Place) (left : List ℕ) (number : ℕ) (outcome : Result Outcome Early) → Led bytes place left number → left ≡ [] → place ≡ finished outcome → IsRead bytes outcome
led_read bytes place left number outcome led empty is = record {
  lines = led.lines;
  split = led.split ∙ ap (λ l. flat_map ended led.lines ++ l) empty ∙ append-nil (flat_map ended led.lines);
  goes = subst (λ p. Goes start led.lines p) is led.goes;
}

start_open : (outcome : Result Outcome Early) → start ≡ finished outcome → ⊥
start_open outcome e = (cc)

-- there is no line at all
pub none_refused : (bytes : List ℕ) → NoLine bytes → IsRefusedAt bytes 1
none_refused bytes none = record {
  lines = [];
  left = bytes;
  place = start;
  split = refl;
  number = refl;
  goes = refl;
  unwanted = λ line more next is e wants. none line more is e;
  unfinished = λ outcome e. absurd (start_open outcome e);
}

-- the first line is another
pub heading_refused : (bytes line rest : List ℕ) → bytes ≡ line ++ 10 ∷ rest → Lacks 10 line → line ≢ codes "vcpkg-plan 1" → IsRefusedAt bytes 1
heading_refused bytes line rest cut whole other = record {
  lines = [];
  left = bytes;
  place = start;
  split = refl;
  number = refl;
  goes = refl;
  unwanted = λ one more next is e wants.
      let same = same_pair 10 one line more rest is.whole whole (sym (ended_line one more) ∙ sym e ∙ cut) in
      other (sym same.0 ∙ wants.is);
  unfinished = λ outcome e. absurd (start_open outcome e);
}

-- ---- what is answered

pub ends_refused : (bytes : List ℕ) (n : ℕ) (e : Unread ReportFault) → IfSome (fault_in e) (λ fault. line_in fault ≡ n) → IsRefusedAt bytes n → Ends bytes (Err e)
ends_refused bytes n (unread.Fault fault) is at = subst (IsRefusedAt bytes) (sym is) at
ends_refused bytes n (unread.Memory memory) is at = tt

pub other_heading : {P : Type 0} (test : Bool) → Decides test P → true ≡ not test → P → ⊥
other_heading true decides e is = (cc)
other_heading false decides e is = let clash = decides.1 is in (cc)

pub same_heading : {P : Type 0} (test : Bool) → Decides test P → false ≡ not test → P
same_heading true decides e = decides.0 refl
same_heading false decides e = (cc)
