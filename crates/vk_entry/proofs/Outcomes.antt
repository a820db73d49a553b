-- Bytes are one contents list, or break one at one place.
use Rattle.std.proofs.Common.{◌≡◌, ◌≢◌, ◌++◌, ◌∷◌, ◌+◌, ◌⊎◌, ℕ, List, [], length, map, inl, inr, refl, ap, sym, ◌∙◌, subst, append_assoc, codes}
use Rattle.std.specs.Prelude.{flat_map, Option, Some, None, Result, Ok, Err}
use Rattle.std.specs.List.{All}
use Rattle.std.proofs.lemmas.List.{append-nil}
use Rattle.std.proofs.lemmas.List.Elements.{All-nil, All-cons, All-head, All-tail, All-map, All-weaker}
use Rattle.vk_base.specs.Paths.{Lacks}
use Rattle.vk_base.proofs.PathLemmas.{lacks_byte}
use Rattle.vk_resolution.specs.Lines.{ended}
use Rattle.vk_forms.proofs.PairForms.{lacks_none, same_pair}
use Rattle.vk_forms.proofs.LineLemmas.{ended_line}
use Rattle.vk_entry.specs.Contents.{Content, content_text, contents_text, opening}
use Rattle.vk_entry.specs.ContentLists.{Ascend, AreBefore, AreContents, BeginsWith, HasForm, IsContent, IsList, IsRefused, lines_before}
use Rattle.vk_base.specs.declared.stops.Unread.TheVariants as unread
use Rattle.vk_entry.specs.ContentViews.{content_view}
use Rattle.vk_entry.specs.Answers.{Ends, IsThese, Reading}
use Rattle.vk_entry.specs.declared.reading.EntryFault.{EntryFault}
use Rattle.vk_entry.specs.declared.reading.EntryFault.TheVariants.{Line, Order, End}
use Rattle.vk_entry.proofs.LineForms.{content_apart, line_whole, no_end}
use Rattle.vk_entry.proofs.OrderLemmas.{ascend_front}

-- ---- lines in bytes

ended_same : (one other more rest : List ℕ) → Lacks 10 one → Lacks 10 other → ended one ++ more ≡ ended other ++ rest → (one ≡ other) × (more ≡ rest)
ended_same one other more rest first second e = same_pair 10 one other more rest first second (sym (ended_line one more) ∙ e ∙ ended_line other rest)

not_ended : (bytes line more : List ℕ) → Lacks 10 bytes → bytes ≡ ended line ++ more → ⊥
not_ended bytes line more whole e = lacks_none 10 line more (subst (Lacks 10) (e ∙ ended_line line more) whole)

begins_same : (bytes line other more : List ℕ) → BeginsWith bytes line → Lacks 10 line → Lacks 10 other → bytes ≡ ended other ++ more → line ≡ other
begins_same bytes line other more (inl begins) first second e = (ended_same line other begins.0 more first second (sym begins.1 ∙ e)).0
begins_same bytes line other more (inr last) first second e = absurd (not_ended line other more first (sym last.0 ∙ e))

-- lines that the same bytes begin with: one list of lines begins the other
both_begin : (lines others : List (List ℕ)) (left rest : List ℕ) → All (Lacks 10) lines → All (Lacks 10) others → flat_map ended lines ++ left ≡ flat_map ended others ++ rest
    → ((more : List (List ℕ)) × (others ≡ lines ++ more) × (left ≡ flat_map ended more ++ rest)) ⊎ ((more : List (List ℕ)) × (lines ≡ others ++ more) × (rest ≡ flat_map ended more ++ left))
both_begin [] others left rest first second e = inl (others, refl, e)
both_begin (x ∷ lines) [] left rest first second e = inr (x ∷ lines, refl, sym e)
both_begin (x ∷ lines) (y ∷ others) left rest first second e =
    let same = ended_same x y (flat_map ended lines ++ left) (flat_map ended others ++ rest) (All-head (Lacks 10) x lines first) (All-head (Lacks 10) y others second)
    (sym (append_assoc (ended x) (flat_map ended lines) left) ∙ e ∙ append_assoc (ended y) (flat_map ended others) rest) in
    elim (both_begin lines others left rest (All-tail (Lacks 10) x lines first) (All-tail (Lacks 10) y others second) same.1) [
      | inl it ↦ inl (it.0, ap (λ l. y ∷ l) it.1 ∙ ap (λ l. l ∷ (lines ++ it.0)) (sym same.0), it.2)
      | inr it ↦ inr (it.0, ap (λ l. x ∷ l) it.1 ∙ ap (λ l. l ∷ (others ++ it.0)) same.0, it.2)
    ]

-- ---- the lines before a place

end_whole : Lacks 10 (codes "end")
end_whole = lacks_byte 10 (codes "end") refl

heading_whole : Lacks 10 (codes "contents 1")
heading_whole = lacks_byte 10 (codes "contents 1") refl

content_whole : (c : Content) → IsContent c → Lacks 10 (content_text c)
content_whole c right = line_whole (inr c) right

pub lines_whole : (before : Option (List Content)) → AreBefore before → All (Lacks 10) (lines_before before)
lines_whole None right = All-nil (Lacks 10)
lines_whole (Some cs) right = All-cons (Lacks 10) (codes "contents 1") (map content_text cs) heading_whole (All-map (Lacks 10) content_text cs (All-weaker IsContent (λ c. Lacks 10 (content_text c)) content_whole cs right.each))

same_contents : (cs ds : List Content) → All IsContent cs → All IsContent ds → map content_text cs ≡ map content_text ds → cs ≡ ds
same_contents [] [] first second e = refl
same_contents [] (d ∷ ds) first second e = absurd (cc)
same_contents (c ∷ cs) [] first second e = absurd (cc)
same_contents (c ∷ cs) (d ∷ ds) first second e =
    let head : c ≡ d = content_apart c d (All-head IsContent c cs first) (All-head IsContent d ds second) (cc) in
    let tail = same_contents cs ds (All-tail IsContent c cs first) (All-tail IsContent d ds second) (cc) in
    ap (λ x. x ∷ cs) head ∙ ap (λ l. d ∷ l) tail

same_before : (one other : Option (List Content)) → AreBefore one → AreBefore other → lines_before one ≡ lines_before other → one ≡ other
same_before None None first second e = refl
same_before None (Some ds) first second e = absurd (cc)
same_before (Some cs) None first second e = absurd (cc)
same_before (Some cs) (Some ds) first second e = ap (λ l. Some l) (same_contents cs ds first.each second.each (cc))

-- a right line that may follow
abbrev IsNext : Option (List Content) → List ℕ → Type 0
IsNext None line = line ≡ codes "contents 1"
IsNext (Some cs) line = (c : Content) × IsContent c × (line ≡ content_text c) × Ascend (cs ++ c ∷ [])

next_form : (before : Option (List Content)) (line : List ℕ) → IsNext before line → HasForm before line
next_form None line is = is
next_form (Some cs) line is = inr (is.0, is.1, is.2)

next_whole : (before : Option (List Content)) (line : List ℕ) → IsNext before line → Lacks 10 line
next_whole None line is = subst (Lacks 10) (sym is) heading_whole
next_whole (Some cs) line is = subst (Lacks 10) (sym is.2) (content_whole is.0 is.1)

next_content : (cs ds : List Content) (line : List ℕ) (more : List (List ℕ)) → All IsContent cs → All IsContent ds → map content_text ds ≡ map content_text cs ++ line ∷ more
    → (c : Content) × ((rest : List Content) × (ds ≡ cs ++ c ∷ rest) × IsContent c × (line ≡ content_text c))
next_content [] [] line more first second e = absurd (cc)
next_content [] (d ∷ ds) line more first second e = (d, (ds, refl, All-head IsContent d ds second, (cc)))
next_content (c ∷ cs) [] line more first second e = absurd (cc)
next_content (c ∷ cs) (d ∷ ds) line more first second e =
    let head : d ≡ c = content_apart d c (All-head IsContent d ds second) (All-head IsContent c cs first) (cc) in
    let later = next_content cs ds line more (All-tail IsContent c cs first) (All-tail IsContent d ds second) (cc) in
    (later.0, (later.1.0, ap (λ x. x ∷ ds) head ∙ ap (λ l. c ∷ l) later.1.1, later.1.2, later.1.3))

next_of : (one other : Option (List Content)) (line : List ℕ) (more : List (List ℕ)) → AreBefore one → AreBefore other → lines_before other ≡ lines_before one ++ line ∷ more → IsNext one line
next_of None None line more first second e = absurd (cc)
next_of None (Some ds) line more first second e = (cc)
next_of (Some cs) None line more first second e = absurd (cc)
next_of (Some cs) (Some ds) line more first second e =
    let it = next_content cs ds line more first.each second.each (cc) in
    (it.0, it.1.2, it.1.3, ascend_front cs it.0 it.1.0 (subst Ascend it.1.1 second.order))

-- ---- what comes of a place

abbrev Outcome : Type 0
Outcome = Result (List Content) EntryFault

abbrev Whole : Option (List Content) → List ℕ → List Content → Type 0
Whole before left cs = (before ≡ Some cs) × (left ≡ ended (codes "end") ++ [])

abbrev WrongLine : Option (List Content) → List ℕ → ℕ → Type 0
WrongLine before left n = (line : List ℕ) × (BeginsWith left line × Lacks 10 line × (HasForm before line → ⊥) × (n ≡ length (lines_before before) + 1))

abbrev WrongOrder : Option (List Content) → List ℕ → ℕ → Type 0
WrongOrder before left n =
    (cs : List Content) × ((next : Content) × ((more : List ℕ) × ((before ≡ Some cs) × IsContent next × (left ≡ ended (content_text next) ++ more) × (Ascend (cs ++ next ∷ []) → ⊥) × (n ≡ length (lines_before before) + 1))))

abbrev NoEnd : Option (List Content) → List ℕ → Type 0
NoEnd before left = Lacks 10 left × ((left ≡ []) ⊎ HasForm before left)

abbrev More : Option (List Content) → List ℕ → Type 0
More before left = (cs : List Content) × ((more : List ℕ) × ((before ≡ Some cs) × (left ≡ ended (codes "end") ++ more) × (more ≢ [])))

abbrev Comes : Option (List Content) → List ℕ → Outcome → Type 0
Comes before left (Ok cs) = Whole before left cs
Comes before left (Err (Line n)) = WrongLine before left n
Comes before left (Err (Order n)) = WrongOrder before left n
Comes before left (Err End) = NoEnd before left ⊎ More before left

content_not_end : (before : Option (List Content)) (cs : List Content) (line : List ℕ) → before ≡ Some cs → IsNext before line → codes "end" ≡ line → ⊥
content_not_end before cs line is next e =
    let it : IsNext (Some cs) line = subst (λ b. IsNext b line) is next in
    no_end it.0 it.1 (e ∙ it.2)

-- nothing comes of a place that a right line follows
moves_on : (before : Option (List Content)) (left : List ℕ) (o : Outcome) (line more : List ℕ) → Comes before left o → IsNext before line → left ≡ ended line ++ more → ⊥
moves_on before left (Ok cs) line more comes next e =
    content_not_end before cs line comes.0 next (ended_same (codes "end") line [] more end_whole (next_whole before line next) (sym comes.1 ∙ e)).0
moves_on before left (Err (Line n)) line more comes next e =
    comes.1.2 (subst (HasForm before) (sym (begins_same left comes.0 line more comes.1.0 comes.1.1 (next_whole before line next) e)) (next_form before line next))
moves_on before left (Err (Order n)) line more comes next e =
    let cs = comes.0 in
    let wrong = comes.1.0 in
    let says = comes.1.1.1 in
    let it : IsNext (Some cs) line = subst (λ b. IsNext b line) says.0 next in
    let text = (ended_same (content_text wrong) line comes.1.1.0 more (content_whole wrong says.1) (next_whole before line next) (sym says.2 ∙ e)).0 in
    let same : it.0 ≡ wrong = content_apart it.0 wrong it.1 says.1 (sym it.2 ∙ sym text) in
    says.3 (subst (λ c. Ascend (cs ++ c ∷ [])) same it.3)
moves_on before left (Err End) line more (inl comes) next e = not_ended left line more comes.0 e
moves_on before left (Err End) line more (inr comes) next e =
    content_not_end before comes.0 line comes.1.1.0 next (ended_same (codes "end") line comes.1.0 more end_whole (next_whole before line next) (sym comes.1.1.1 ∙ e)).0

-- ---- one thing comes of a place

end_form : (before : Option (List Content)) (cs : List Content) → before ≡ Some cs → HasForm before (codes "end")
end_form before cs is = subst (λ b. HasForm b (codes "end")) (sym is) (inl refl)

content_form : (before : Option (List Content)) (cs : List Content) (c : Content) → before ≡ Some cs → IsContent c → HasForm before (content_text c)
content_form before cs c is right = subst (λ b. HasForm b (content_text c)) (sym is) (inr (c, right, refl))

module _ (before : Option (List Content)) (left : List ℕ) where
  form_begins : (line more : List ℕ) (n : ℕ) → Lacks 10 line → HasForm before line → left ≡ ended line ++ more → WrongLine before left n → ⊥
  form_begins line more n whole form e wrong = wrong.1.2 (subst (HasForm before) (sym (begins_same left wrong.0 line more wrong.1.0 wrong.1.1 whole e)) form)

  last_begins : (line : List ℕ) → BeginsWith left line → Lacks 10 left → (left ≡ line) × (line ≢ [])
  last_begins line (inl begins) whole = absurd (not_ended left line begins.0 whole begins.1)
  last_begins line (inr last) whole = last

  line_no_end : (n : ℕ) → WrongLine before left n → NoEnd before left → ⊥
  line_no_end n wrong none =
      let is = last_begins wrong.0 wrong.1.0 none.0 in
      elim none.1 [
        | inl empty ↦ is.1 (sym is.0 ∙ empty)
        | inr form ↦ wrong.1.2 (subst (HasForm before) is.0 form)
      ]

  order_end : (n : ℕ) (more : List ℕ) → WrongOrder before left n → left ≡ ended (codes "end") ++ more → ⊥
  order_end n more wrong e = no_end wrong.1.0 wrong.1.1.1.1 (ended_same (codes "end") (content_text wrong.1.0) more wrong.1.1.0 end_whole (content_whole wrong.1.0 wrong.1.1.1.1) (sym e ∙ wrong.1.1.1.2)).0

  order_line : (n m : ℕ) → WrongOrder before left n → WrongLine before left m → ⊥
  order_line n m wrong line =
      let says = wrong.1.1.1 in
      form_begins (content_text wrong.1.0) wrong.1.1.0 m (content_whole wrong.1.0 says.1) (content_form before wrong.0 wrong.1.0 says.0 says.1) says.2 line

  whole_more : (cs : List Content) → Whole before left cs → More before left → ⊥
  whole_more cs all more = more.1.1.2 (sym (ended_same (codes "end") (codes "end") [] more.1.0 end_whole end_whole (sym all.1 ∙ more.1.1.1)).1)

  some_same : (cs ds : List Content) → before ≡ Some cs → before ≡ Some ds → cs ≡ ds
  some_same cs ds one other = let e : Some cs ≡ Some ds = sym one ∙ other in (cc)

  whole_refused : (cs : List Content) (f : EntryFault) → Whole before left cs → Comes before left (Err f) → ⊥
  whole_refused cs (Line n) all wrong = form_begins (codes "end") [] n end_whole (end_form before cs all.0) all.1 wrong
  whole_refused cs (Order n) all wrong = order_end n [] wrong all.1
  whole_refused cs End all (inl none) = not_ended left (codes "end") [] none.0 all.1
  whole_refused cs End all (inr more) = whole_more cs all more

  line_end : (n : ℕ) → WrongLine before left n → Comes before left (Err End) → ⊥
  line_end n wrong (inl none) = line_no_end n wrong none
  line_end n wrong (inr more) = form_begins (codes "end") more.1.0 n end_whole (end_form before more.0 more.1.1.0) more.1.1.1 wrong

  order_no_end : (n : ℕ) → WrongOrder before left n → Comes before left (Err End) → ⊥
  order_no_end n wrong (inl none) = not_ended left (content_text wrong.1.0) wrong.1.1.0 none.0 wrong.1.1.1.2
  order_no_end n wrong (inr more) = order_end n more.1.0 wrong more.1.1.1

  one_fault : (f g : EntryFault) → Comes before left (Err f) → Comes before left (Err g) → f ≡ g
  one_fault (Line n) (Line m) one other = ap (λ k. Line k) (one.1.3 ∙ sym other.1.3)
  one_fault (Line n) (Order m) one other = absurd (order_line m n other one)
  one_fault (Line n) End one other = absurd (line_end n one other)
  one_fault (Order n) (Line m) one other = absurd (order_line n m one other)
  one_fault (Order n) (Order m) one other = ap (λ k. Order k) (one.1.1.1.4 ∙ sym other.1.1.1.4)
  one_fault (Order n) End one other = absurd (order_no_end n one other)
  one_fault End (Line m) one other = absurd (line_end m other one)
  one_fault End (Order m) one other = absurd (order_no_end m other one)
  one_fault End End one other = refl

  one_comes : (o p : Outcome) → Comes before left o → Comes before left p → o ≡ p
  one_comes (Ok cs) (Ok ds) one other = ap (λ l. Ok l) (some_same cs ds one.0 other.0)
  one_comes (Ok cs) (Err f) one other = absurd (whole_refused cs f one other)
  one_comes (Err f) (Ok cs) one other = absurd (whole_refused cs f other one)
  one_comes (Err f) (Err g) one other = ap (λ x. Err x) (one_fault f g one other)

-- ---- one thing comes of bytes

record Comes-of (bytes : List ℕ) (o : Outcome) : Type 0 where
  before : Option (List Content)
  left : List ℕ
  right : AreBefore before
  split : bytes ≡ flat_map ended (lines_before before) ++ left
  comes : Comes before left o

ahead : (bytes : List ℕ) (o p : Outcome) (one : Comes-of bytes o) (other : Comes-of bytes p) (more : List (List ℕ)) → lines_before other.before ≡ lines_before one.before ++ more → one.left ≡ flat_map ended more ++ other.left → o ≡ p
ahead bytes o p one other [] lines left =
    let before : other.before ≡ one.before = same_before other.before one.before other.right one.right (lines ∙ append-nil (lines_before one.before)) in
    one_comes one.before one.left o p one.comes (subst (λ b. Comes b one.left p) before (subst (λ l. Comes other.before l p) (sym left) other.comes))
ahead bytes o p one other (line ∷ more) lines left =
    absurd (moves_on one.before one.left o line (flat_map ended more ++ other.left) one.comes (next_of one.before other.before line more one.right other.right lines) (left ∙ append_assoc (ended line) (flat_map ended more) other.left))

one_of : (bytes : List ℕ) (o p : Outcome) → Comes-of bytes o → Comes-of bytes p → o ≡ p
one_of bytes o p one other =
    elim (both_begin (lines_before one.before) (lines_before other.before) one.left other.left (lines_whole one.before one.right) (lines_whole other.before other.right) (sym one.split ∙ other.split)) [
      | inl it ↦ ahead bytes o p one other it.0 it.1 it.2
      | inr it ↦ sym (ahead bytes p o other one it.0 it.1 it.2)
    ]

list_comes : (bytes : List ℕ) (cs : List Content) → IsList bytes cs → Comes-of bytes (Ok cs)
list_comes bytes cs is = record {
  before = Some cs;
  left = ended (codes "end") ++ [];
  right = is.1;
  split = is.0 ∙ ap (λ l. flat_map ended (opening cs) ++ l) (sym (append-nil (ended (codes "end"))));
  comes = (refl, refl);
}

refused_comes : (bytes : List ℕ) (f : EntryFault) → IsRefused bytes f → Comes-of bytes (Err f)
refused_comes bytes (Line n) is = record { before = is.before; left = is.left; right = is.right; split = is.split; comes = (is.line, (is.next, is.whole, is.wrong, is.number)) }
refused_comes bytes (Order n) is = record {
  before = Some is.before;
  left = ended (content_text is.next) ++ is.more;
  right = is.right;
  split = is.split;
  comes = (is.before, (is.next, (is.more, (refl, is.fine, refl, is.wrong, is.number))));
}
refused_comes bytes End (inl is) = record { before = is.before; left = is.last; right = is.right; split = is.split; comes = inl (is.whole, is.form) }
refused_comes bytes End (inr is) = record {
  before = Some is.contents;
  left = ended (codes "end") ++ is.more;
  right = is.right;
  split = is.split ∙ append_assoc (flat_map ended (opening is.contents)) (ended (codes "end")) is.more;
  comes = inr (is.contents, (is.more, (refl, refl, is.some)));
}

ok_same : (cs ds : List Content) (o p : Outcome) → o ≡ p → o ≡ Ok cs → p ≡ Ok ds → cs ≡ ds
ok_same cs ds o p e one other = (cc)

err_same : (f g : EntryFault) (o p : Outcome) → o ≡ p → o ≡ Err f → p ≡ Err g → f ≡ g
err_same f g o p e one other = (cc)

pub one_list : (bytes : List ℕ) (cs ds : List Content) → IsList bytes cs → IsList bytes ds → cs ≡ ds
one_list bytes cs ds one other = ok_same cs ds (Ok cs) (Ok ds) (one_of bytes (Ok cs) (Ok ds) (list_comes bytes cs one) (list_comes bytes ds other)) refl refl

pub never_both : (bytes : List ℕ) (cs : List Content) (f : EntryFault) → IsList bytes cs → IsRefused bytes f → ⊥
never_both bytes cs f one other =
    let clash = one_of bytes (Ok cs) (Err f) (list_comes bytes cs one) (refused_comes bytes f other) in
    (cc)

pub one_refusal : (bytes : List ℕ) (f g : EntryFault) → IsRefused bytes f → IsRefused bytes g → f ≡ g
one_refusal bytes f g one other = err_same f g (Err f) (Err g) (one_of bytes (Err f) (Err g) (refused_comes bytes f one) (refused_comes bytes g other)) refl refl

-- ---- what reading answers for a list

pub read_these : (cs : List Content) → AreContents cs → (answer : Reading) → Ends (contents_text cs) answer → IsThese cs answer
read_these cs right (Ok lines) ends = one_list (contents_text cs) (map content_view lines) cs ends (refl, right)
read_these cs right (Err (unread.Fault fault)) ends = never_both (contents_text cs) cs fault (refl, right) ends
read_these cs right (Err (unread.Memory memory)) ends = tt
