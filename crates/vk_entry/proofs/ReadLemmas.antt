-- A contents list is read line by line.
use Rattle.std.proofs.Common.{◌≡◌, ◌≢◌, ◌==◌, ◌++◌, ◌∷◌, ◌<◌, ◌+◌, ◌^◌, ℕ, Bool, true, false, List, [], length, length-append, map, inl, inr, refl, ap, sym, ◌∙◌, subst, append_assoc, arith, codes}
use Rattle.std.specs.Prelude.{flat_map, Option, Some, None, is_some, option_map, Ok, Err, IsErrAnd}
use Rattle.std.proofs.lemmas.List.{append-nil, map-append}
use Rattle.std.proofs.lemmas.List.Elements.{All-nil, All-push}
use Rattle.std.proofs.lemmas.Grind.{flat_map-append}
use Rattle.vk_base.specs.Paths.{Lacks}
use Rattle.vk_base.specs.declared.stops.Unread.{Unread}
use Rattle.vk_base.specs.declared.stops.Unread.TheVariants as unread
use Rattle.vk_resolution.specs.Lines.{ended}
use Rattle.vk_forms.specs.Forms.{ReadsAs}
use Rattle.vk_forms.proofs.LineLemmas.{ended_line}
use Rattle.vk_entry.specs.Contents.{Content, content_text, contents_text, opening}
use Rattle.vk_entry.specs.ContentViews.{content_view}
use Rattle.vk_entry.specs.ContentLists.{AreContents, HasForm, HasWrongLine, IsContent, IsRefused}
use Rattle.vk_entry.specs.Answers.{Ends, Reading}
use Rattle.vk_entry.specs.Readings.{AnyLine, IsRightLine, IsWhole, Lacking, Led, Takes, line_text}
use Rattle.vk_entry.specs.declared.contents.ContentLine.{ContentLine}
use Rattle.vk_entry.specs.declared.reading.EntryFault.{EntryFault}
use Rattle.vk_entry.specs.declared.reading.EntryFault.TheVariants.{Line, Order, End}
use Rattle.vk_entry.proofs.LineForms.{no_form}
use Rattle.vk_entry.proofs.OrderLemmas.{none_ascend}

lines_more : (lines : List (List ℕ)) (line rest : List ℕ) → flat_map ended lines ++ (line ++ 10 ∷ rest) ≡ flat_map ended (lines ++ line ∷ []) ++ rest
lines_more lines line rest =
    ap (λ l. flat_map ended lines ++ l) (sym (ended_line line rest))
    ∙ sym (append_assoc (flat_map ended lines) (ended line) rest)
    ∙ ap (λ l. (flat_map ended lines ++ l) ++ rest) (sym (append-nil (ended line)))
    ∙ ap (λ l. l ++ rest) (sym (flat_map-append ended lines (line ∷ [])))

opening_more : (cs : List Content) (c : Content) → opening (cs ++ c ∷ []) ≡ opening cs ++ content_text c ∷ []
opening_more cs c = ap (λ l. codes "contents 1" ∷ l) (map-append content_text cs (c ∷ []))

pub nothing_right : AreContents []
nothing_right = record { each = All-nil IsContent; order = none_ascend }

-- ---- the first line

pub led_start : (bytes heading rest : List ℕ) → length bytes < 2 ^ 32 → bytes ≡ heading ++ 10 ∷ rest → heading ≡ codes "contents 1" → Led bytes [] rest 2
led_start bytes heading rest small cut is =
    let count = ap length cut in
    let parts = length-append heading (10 ∷ rest) in
    let ten : length heading ≡ 10 = ap length is in record {
      right = nothing_right;
      split = cut ∙ lines_more [] heading rest ∙ ap (λ l. flat_map ended (l ∷ []) ++ rest) is;
      count = refl;
      room = omega (arith, small, count, parts, ten);
    }

pub other_heading : (bytes heading rest : List ℕ) → bytes ≡ heading ++ 10 ∷ rest → Lacks 10 heading → (heading ≡ codes "contents 1" → ⊥) → HasWrongLine bytes 1
other_heading bytes heading rest cut whole other = record {
  before = None;
  line = heading;
  left = bytes;
  right = tt;
  split = refl;
  next = inl (rest, cut ∙ sym (ended_line heading rest));
  whole = whole;
  wrong = other;
  number = refl;
}

pub other_bytes : (bytes : List ℕ) → bytes ≢ [] → Lacks 10 bytes → (bytes ≡ codes "contents 1" → ⊥) → HasWrongLine bytes 1
other_bytes bytes some whole other = record {
  before = None;
  line = bytes;
  left = bytes;
  right = tt;
  split = refl;
  next = inr (refl, some);
  whole = whole;
  wrong = other;
  number = refl;
}

-- ---- a line more

module _ (bytes : List ℕ) (cs : List Content) (left : List ℕ) (number : ℕ) (led : Led bytes cs left number) (line more : List ℕ) (cut : left ≡ line ++ 10 ∷ more) where
  all_split : bytes ≡ flat_map ended (opening cs) ++ (line ++ 10 ∷ more)
  all_split = led.split ∙ ap (λ l. flat_map ended (opening cs) ++ l) cut

  pub led_more : (new : List Content) → Takes line number cs (Ok false) new → Led bytes new more (number + 1)
  led_more new takes =
      let c = takes.0 in
      let fine = takes.1 in
      let is = takes.2 in
      let order = takes.3 in
      let put = takes.4 in
      let parts = length-append line (10 ∷ more) in
      let length_left = ap length cut in
      let one_more = length-append (opening cs) (content_text c ∷ []) in
      let before = led.count in
      let room = led.room in
      subst (λ l. Led bytes l more (number + 1)) (sym put) (record {
        right = record { each = All-push IsContent cs c led.right.each fine; order = order };
        split = all_split ∙ lines_more (opening cs) line more ∙ ap (λ l. flat_map ended (opening cs ++ l ∷ []) ++ more) is ∙ ap (λ l. flat_map ended l ++ more) (sym (opening_more cs c));
        count = ap (λ n. n + 1) before ∙ ap (λ n. n + 1) (sym one_more) ∙ ap (λ l. length l + 1) (sym (opening_more cs c));
        room = omega (arith, room, length_left, parts);
      })

  pub led_refused : (new : List Content) (e : Unread EntryFault) → Lacks 10 line → Takes line number cs (Err e) new → Ends bytes (Err e)
  led_refused new (unread.Fault (Line m)) whole takes = record {
    before = Some cs;
    line = line;
    left = left;
    right = led.right;
    split = led.split;
    next = inl (more, cut ∙ sym (ended_line line more));
    whole = whole;
    wrong = takes.0;
    number = takes.1 ∙ led.count;
  }
  led_refused new (unread.Fault (Order m)) whole takes = record {
    before = cs;
    next = takes.0;
    more = more;
    right = led.right;
    fine = takes.1;
    split = all_split ∙ ap (λ l. flat_map ended (opening cs) ++ l) (sym (ended_line line more) ∙ ap (λ l. ended l ++ more) takes.2);
    wrong = takes.3;
    number = takes.4 ∙ led.count;
  }
  led_refused new (unread.Fault End) whole takes = absurd takes
  led_refused new (unread.Memory memory) whole takes = tt

  end_split : line ≡ codes "end" → bytes ≡ contents_text cs ++ more
  end_split is = all_split ∙ ap (λ l. flat_map ended (opening cs) ++ l) (sym (ended_line line more) ∙ ap (λ l. ended l ++ more) is) ∙ sym (append_assoc (flat_map ended (opening cs)) (ended (codes "end")) more)

  pub led_whole : (lines : List ContentLine) (r : Reading) → Takes line number cs (Ok true) (map content_view lines) → IsWhole lines more r → Ends bytes r
  led_whole lines (Ok read) takes is =
      let same : map content_view read ≡ cs = ap (map content_view) is.1 ∙ takes.1 in
      (end_split takes.0 ∙ ap (λ l. contents_text cs ++ l) is.0 ∙ append-nil (contents_text cs) ∙ ap contents_text (sym same), subst AreContents (sym same) led.right)
  led_whole lines (Err (unread.Fault (Line m))) takes is = absurd is
  led_whole lines (Err (unread.Fault (Order m))) takes is = absurd is
  led_whole lines (Err (unread.Fault End)) takes is = inr (record { contents = cs; more = more; right = led.right; split = end_split takes.0; some = is })
  led_whole lines (Err (unread.Memory memory)) takes is = absurd is

-- ---- the last bytes

pub led_ends : (bytes : List ℕ) (cs : List Content) (left : List ℕ) (number : ℕ) (fault : EntryFault) → Led bytes cs left number → Lacks 10 left → Lacking left number fault → IsRefused bytes fault
led_ends bytes cs left number (Line m) led whole lacking = record {
  before = Some cs;
  line = left;
  left = left;
  right = led.right;
  split = led.split;
  next = inr (refl, lacking.0);
  whole = whole;
  wrong = lacking.1;
  number = lacking.2 ∙ led.count;
}
led_ends bytes cs left number (Order m) led whole lacking = absurd lacking
led_ends bytes cs left number End led whole lacking = inl (record { before = Some cs; last = left; right = led.right; split = led.split; whole = whole; form = lacking })

pub some_bytes : (bytes : List ℕ) (test : Bool) → test ≡ (length bytes == 0) → test ≡ false → bytes ≢ []
some_bytes bytes test is fails none =
    let clash : true ≡ false = ap (λ l. length l == 0) (sym none) ∙ sym is ∙ fails in
    (cc)

pub no_line_there : {X : Type 0} (view : X → AnyLine) (line : List ℕ) (found : Option X) (test : Bool) → ReadsAs line_text IsRightLine line (option_map view found) → test ≡ is_some found → test ≡ false → HasForm (Some []) line → ⊥
no_line_there view line None test read is fails = no_form line read
no_line_there view line (Some x) test read is fails = absurd (let clash : true ≡ false = sym is ∙ fails in (cc))

-- ---- what is answered

pub passed_on : (bytes : List ℕ) (r : Reading) (e : Unread EntryFault) → IsErrAnd r (λ x. x ≡ e) → Ends bytes (Err e) → Ends bytes r
passed_on bytes (Ok lines) e is ends = absurd is
passed_on bytes (Err x) e is ends = subst (λ y. Ends bytes (Err y)) (sym is) ends
