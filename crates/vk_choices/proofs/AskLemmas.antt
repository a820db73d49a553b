-- Rows have what facts ask, one fact after the other.
use Rattle.std.proofs.Common.{◌≡◌, ◌<◌, ◌+◌, take, get_or, arith, ℕ, zero, suc, Bool, true, false, cond, List, [], ◌∷◌, ◌++◌, length, map, inl, inr, refl, ap, ap₂, sym, ◌∙◌, subst}
use Rattle.std.specs.Prelude.{Option, Some, None, IfSome, Result, Ok, Err, OnOk, option_map, option_to_list, filter_map, bytes_eq}
use Rattle.std.specs.List.{Contains, cons_option}
use Rattle.std.specs.Map.{keys_of}
use Rattle.std.proofs.lemmas.List.{append-nil, take_more, map-append, length-map, length-take-le}
use Rattle.std.proofs.lemmas.List.Elements.{Contains-append_cases, filter_map-append}
use Rattle.std.proofs.lemmas.Slice.Eq.{bytes_eq-Decides}
use Rattle.vk_spec.specs.Versions.{Ask}
use Rattle.vk_spec.proofs.ListLemmas.{contains_first}
use Rattle.vk_spec.proofs.OptionLemmas.{of_both}
use Rattle.vk_resolution.specs.Givens.{Pages}
use Rattle.vk_resolution.specs.Asking.{Fact, need, floor, visit}
use Rattle.vk_resolution.specs.Reasons.{fact_at, facts_of}
use Rattle.vk_resolution.proofs.Members.{contains_map, option_contains}
use Rattle.vk_resolution.proofs.LineLemmas.{at_contains}
use Rattle.vk_resolution.proofs.Soundness.{map_some}
use Rattle.vk_model.specs.declared.reasons.Reason.{Reason}
use Rattle.vk_model.specs.FactViews.{fact_view, reason_view, reasons_view}
use Rattle.vk_choices.specs.declared.asks.Asked.{Asked}
use Rattle.vk_choices.specs.Rows.{Rows, row_of, in_row, listed_of, AreInOrder, HasOneMore}
use Rattle.vk_choices.specs.Asks.{AskOnLine, asked_view, ask_on, asks_at, ask_in, IsNoted, HaveAsks}
use Rattle.vk_choices.specs.Floors.{CanAskFloors, CanAskPorts}
use Rattle.vk_choices.proofs.RowLemmas.{row_is}

-- ---- one fact more

one_by : (x : Asked) (a : Ask) (n : ℕ) → asked_view x ≡ ask_on n a → (b : Bool) → map asked_view (cond b (x ∷ []) []) ≡ option_to_list (option_map (ask_on n) (cond b (Some a) None))
one_by x a n is true = ap (λ y. y ∷ []) is
one_by x a n is false = refl

-- a floor is noted
pub floor_noted : {A E : Type 0} (q : List ℕ) (x : Asked) (a : Ask) (n : ℕ) (old new : Rows Asked) (r : Result A E) → asked_view x ≡ ask_on n a → OnOk r (HasOneMore q x old new) → OnOk r (IsNoted (floor q a) n old new)
floor_noted q x a n old new (Ok u) is more = record {
  asks = λ p. (
      ap (map asked_view) (more.listed p)
      ∙ map-append asked_view (listed_of old p) (cond (bytes_eq q p) (x ∷ []) [])
      ∙ ap (λ l. asks_at old p ++ l) (one_by x a n is (bytes_eq q p))
      );
  some = more.some;
}
floor_noted q x a n old new (Err e) is more = tt

-- of any other fact there is nothing to note
pub nothing_noted : (x : Fact) (n : ℕ) (rows : Rows Asked) → ((p : List ℕ) → ask_in p x ≡ None) → IsNoted x n rows rows
nothing_noted x n rows none = record {
  asks = λ p. sym (append-nil (asks_at rows p)) ∙ ap (λ o. asks_at rows p ++ option_to_list (option_map (ask_on n) o)) (sym (none p));
  some = λ some. some;
}

one_ask : (n : ℕ) (o : Option Ask) → map (λ (a : AskOnLine). a.ask) (option_to_list (option_map (ask_on n) o)) ≡ option_to_list o
one_ask n None = refl
one_ask n (Some a) = refl

one_of : (p : List ℕ) (x : Fact) (o : Option Ask) → ask_in p x ≡ o → filter_map (ask_in p) (x ∷ []) ≡ option_to_list o
one_of p x None e = ap (λ (o : Option Ask). cons_option o []) e
one_of p x (Some a) e = ap (λ (o : Option Ask). cons_option o []) e

stays : (facts : List Fact) (x y : Fact) (n : ℕ) → fact_at facts n ≡ Some y → fact_at (facts ++ x ∷ []) n ≡ Some y
stays facts x y zero e = (cc)
stays [] x y (suc n) e = (cc)
stays (z ∷ facts) x y (suc zero) e = e
stays (z ∷ facts) x y (suc (suc n)) e = stays facts x y (suc n) e

comes : (facts : List Fact) (x : Fact) → fact_at (facts ++ x ∷ []) (suc (length facts)) ≡ Some x
comes [] x = refl
comes (z ∷ facts) x = comes facts x

known_by : (p q : List ℕ) (a b : Ask) (t : Bool) → bytes_eq q p ≡ t → cond t (Some a) None ≡ Some b → floor q a ≡ floor p b
known_by p q a b true same e = let ask : a ≡ b = (cc) in ap₂ floor ((bytes_eq-Decides q p).0 same) ask
known_by p q a b false other e = (cc)

-- what asks something of a port is a floor
known : (p : List ℕ) (x : Fact) (a : Ask) → ask_in p x ≡ Some a → x ≡ floor p a
known p (need who f) a e = (cc)
known p (floor q b) a e = known_by p q b a (bytes_eq q p) refl e
known p (visit i f b) a e = (cc)

more_asks : (facts : List Fact) (x : Fact) (old new : Rows Asked) → HaveAsks facts old → IsNoted x (suc (length facts)) old new → HaveAsks (facts ++ x ∷ []) new
more_asks facts x old new have noted = record {
  asks = λ p. (
      ap (map (λ (a : AskOnLine). a.ask)) (noted.asks p)
      ∙ map-append (λ (a : AskOnLine). a.ask) (asks_at old p) (option_to_list (option_map (ask_on (suc (length facts))) (ask_in p x)))
      ∙ ap₂ (λ (l m : List Ask). l ++ m) (have.asks p) (one_ask (suc (length facts)) (ask_in p x) ∙ sym (one_of p x (ask_in p x) refl))
      ∙ sym (filter_map-append (ask_in p) facts (x ∷ []))
      );
  lines = lines;
  some = noted.some have.some;
}
  where
    added : (p : List ℕ) (a : AskOnLine) → Contains (option_to_list (option_map (ask_on (suc (length facts))) (ask_in p x))) a → fact_at (facts ++ x ∷ []) a.line ≡ Some (floor p a.ask)
    added p a h =
        let r = map_some (ask_on (suc (length facts))) (ask_in p x) a (option_contains (option_map (ask_on (suc (length facts))) (ask_in p x)) a h) in
        subst (λ (b : AskOnLine). fact_at (facts ++ x ∷ []) b.line ≡ Some (floor p b.ask)) r.2 (comes facts x ∙ ap Some (known p x r.0 r.1))

    lines : (p : List ℕ) (a : AskOnLine) → Contains (asks_at new p) a → fact_at (facts ++ x ∷ []) a.line ≡ Some (floor p a.ask)
    lines p a h =
        elim (Contains-append_cases (asks_at old p) (option_to_list (option_map (ask_on (suc (length facts))) (ask_in p x))) a (subst (λ l. Contains l a) (noted.asks p) h)) [
          | inl was ↦ stays facts x (floor p a.ask) a.line (have.lines p a was)
          | inr is ↦ added p a is
        ]

-- ---- the facts of reasons, one more

abbrev facts_to : List Reason → ℕ → List Fact
facts_to reasons i = facts_of (reasons_view (take i reasons))

facts_more : (reasons : List Reason) (i : ℕ) (r : Reason) → i < length reasons → r ≡ get_or reasons i r → facts_to reasons (i + 1) ≡ facts_to reasons i ++ fact_view r.fact ∷ []
facts_more reasons i r within is =
    ap (λ l. facts_of (reasons_view l)) (take_more reasons i r within ∙ ap (λ x. take i reasons ++ x ∷ []) (sym is))
    ∙ ap facts_of (map-append reason_view (take i reasons) (r ∷ []))
    ∙ map-append (λ x. x.fact) (reasons_view (take i reasons)) (reason_view r ∷ [])

facts_length : (reasons : List Reason) (i : ℕ) → i < length reasons → i + 1 ≡ suc (length (facts_to reasons i))
facts_length reasons i within =
    let a = length-map (reasons_view (take i reasons)) (λ x. x.fact) in
    let b = length-map (take i reasons) reason_view in
    let d = length-take-le i reasons (omega (arith, within)) in
    omega (arith, a, b, d)

pub asks_more : (reasons : List Reason) (i n : ℕ) (r : Reason) (old new : Rows Asked) → i < length reasons → r ≡ get_or reasons i r → n ≡ i + 1
    → HaveAsks (facts_to reasons i) old → IsNoted (fact_view r.fact) n old new → HaveAsks (facts_to reasons (i + 1)) new
asks_more reasons i n r old new within is line have step =
    subst (λ l. HaveAsks l new) (sym (facts_more reasons i r within is))
    (more_asks (facts_to reasons i) (fact_view r.fact) old new have (subst (λ k. IsNoted (fact_view r.fact) k old new) (line ∙ facts_length reasons i within) step))

-- ---- rows in another order

pub same_asks : (facts : List Fact) (old new : Rows Asked) → ((p : List ℕ) → row_of new p ≡ row_of old p) → HaveAsks facts old → HaveAsks facts new
same_asks facts old new same have = record {
  asks = λ p. ap (λ o. map (λ (a : AskOnLine). a.ask) (map asked_view (in_row o))) (same p) ∙ have.asks p;
  lines = λ p a h. have.lines p a (subst (λ o. Contains (map asked_view (in_row o)) a) (same p) h);
  some = λ p e. same p ∙ have.some p (sym (ap in_row (same p)) ∙ e);
}

-- ---- what may be asked

some_ask : (xs : List Asked) → (xs ≡ [] → ⊥) → (a : AskOnLine) × Contains (map asked_view xs) a
some_ask [] some = absurd (some refl)
some_ask (x ∷ xs) some = (asked_view x, contains_first (asked_view x) (map asked_view xs))

module _ (facts : List Fact) (rows : Rows Asked) (have : HaveAsks facts rows) (ordered : AreInOrder rows) where
  not_empty : (e : List ℕ × List Asked) → Contains rows e → e.1 ≡ [] → ⊥
  not_empty e h none =
      let is : row_of rows e.0 ≡ Some e.1 = row_is rows ordered e h in
      let clash : Some e.1 ≡ None = sym is ∙ have.some e.0 (ap in_row is ∙ none) in
      (cc)

  -- each port with a row has a floor
  has_floor : (p : List ℕ) → Contains (keys_of rows) p → (a : Ask) × Contains facts (floor p a)
  has_floor p h =
      let e = contains_map (λ (x : List ℕ × List Asked). x.0) rows p h in
      let a = some_ask e.0.1 (not_empty e.0 e.1) in
      let asked : Contains (asks_at rows e.0.0) a.0 = subst (λ o. Contains (map asked_view (in_row o)) a.0) (sym (row_is rows ordered e.0 e.1)) a.1 in
      (a.0.ask, subst (λ q. Contains facts (floor q a.0.ask)) e.2 (at_contains facts a.0.line (floor e.0.0 a.0.ask) (have.lines e.0.0 a.0 asked)))

  pub can_ask_ports : (o : Option Pages) → IfSome o (CanAskFloors facts) → IfSome o (CanAskPorts (keys_of rows))
  can_ask_ports o can = of_both o can can (λ pages all again. λ p h. (let f = has_floor p h in all p f.0 f.1))
