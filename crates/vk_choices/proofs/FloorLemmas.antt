-- The floors of ports are those of facts, where they are the floors for what the facts ask.
use Rattle.std.proofs.Common.{◌≡◌, ◌<◌, ◌+◌, take, get_or, ℕ, Bool, true, false, cond, List, [], ◌∷◌, ◌++◌, length, map, refl, ap, ap₂, sym, ◌∙◌, subst}
use Rattle.std.specs.Prelude.{Option, Some, None, IfSome, option_map, option_to_list, filter_map, bytes_eq}
use Rattle.std.specs.declared.cmp.Ordering.TheVariants.{Less}
use Rattle.std.specs.Ordering.{nat_cmp}
use Rattle.std.specs.Cmp.Lexicographic.{slice_cmp}
use Rattle.std.specs.List.{Contains, AllByRecursion, cons_option}
use Rattle.std.specs.List.Sorted.{IsStrictlySortedBy}
use Rattle.std.specs.Map.{keys_of}
use Rattle.std.proofs.lemmas.List.{take_more, map-append}
use Rattle.std.proofs.lemmas.List.Elements.{filter_map-append}
use Rattle.std.proofs.lemmas.Map.Keys.{sorted_head}
use Rattle.std.proofs.lemmas.Map.Views.{Contains-from_lookup}
use Rattle.std.proofs.lemmas.Slice.Eq.{bytes_eq-Decides}
use Rattle.vk_spec.specs.Versions.{Version, Ask, ask_of}
use Rattle.vk_spec.specs.Catalogues.{ArePages}
use Rattle.vk_spec.proofs.ListLemmas.{contains_nothing}
use Rattle.vk_spec.proofs.OptionLemmas.{of_both}
use Rattle.vk_version.specs.AskViews.{ask_view}
use Rattle.vk_resolution.specs.Givens.{Pages, version_at}
use Rattle.vk_resolution.specs.Asking.{Fact, need, floor, visit}
use Rattle.vk_resolution.specs.Choices.{floor_in}
use Rattle.vk_resolution.specs.Reasons.{fact_at}
use Rattle.vk_resolution.proofs.Members.{contains_map, contains-filter_map, filter_map-contains}
use Rattle.vk_resolution.proofs.ChoiceLemmas.{version_ask}
use Rattle.vk_resolution.proofs.Soundness.{map_some}
use Rattle.vk_choices.specs.declared.asks.Asked.{Asked}
use Rattle.vk_choices.specs.declared.floors.Floor.{Floor}
use Rattle.vk_choices.specs.Rows.{Rows, row_of, in_row, listed_of, NoneIsEmpty, AreInOrder}
use Rattle.vk_choices.specs.Asks.{AskOnLine, asked_view, asks_at, ask_in, HaveAsks}
use Rattle.vk_choices.specs.Floors.{versions_of, HaveFloors, on_line, floor_for, AreFloors, row_with, floors_for}
use Rattle.vk_choices.proofs.RowLemmas.{absent, are_apart, is_first, others_ascend}

-- ---- one row before others

front_by : (p q : List ℕ) (floors : List Floor) (rest : Rows Floor) (b : Bool) → bytes_eq p q ≡ b → (b ≡ true → listed_of rest p ≡ []) → listed_of (row_with q floors ++ rest) p ≡ cond b floors (listed_of rest p)
front_by p q [] rest true same none = none refl
front_by p q [] rest false other none = refl
front_by p q (f ∷ floors) rest true same none = ap (λ c. in_row (cond c (Some (f ∷ floors)) (row_of rest p))) same
front_by p q (f ∷ floors) rest false other none = ap (λ c. in_row (cond c (Some (f ∷ floors)) (row_of rest p))) other

some_by : (f : Floor) (floors : List Floor) (o : Option (List Floor)) (b : Bool) → (in_row o ≡ [] → o ≡ None) → in_row (cond b (Some (f ∷ floors)) o) ≡ [] → cond b (Some (f ∷ floors)) o ≡ None
some_by f floors o true rest e = (cc)
some_by f floors o false rest e = rest e

some_front : (q : List ℕ) (floors : List Floor) (rest : Rows Floor) → NoneIsEmpty rest → NoneIsEmpty (row_with q floors ++ rest)
some_front q [] rest some p e = some p e
some_front q (f ∷ floors) rest some p e = some_by f floors (row_of rest p) (bytes_eq p q) (some p) e

above_front : (P : List ℕ → Type 0) (q : List ℕ) (floors : List Floor) (rest : Rows Floor) → P q → AllByRecursion P (keys_of rest) → AllByRecursion P (keys_of (row_with q floors ++ rest))
above_front P q [] rest first all = all
above_front P q (f ∷ floors) rest first all = (first, all)

ordered_front : (q : List ℕ) (floors : List Floor) (rest : Rows Floor) → AllByRecursion (λ p. slice_cmp nat_cmp q p ≡ Less) (keys_of rest) → AreInOrder rest → AreInOrder (row_with q floors ++ rest)
unfolding IsStrictlySortedBy
ordered_front q [] rest above ordered = ordered
ordered_front q (f ∷ floors) rest above ordered = (above, ordered)

-- ---- the floors for what is asked

module _ (pages : Pages) where
  abbrev floors_in : List ℕ × List Asked → List Floor
  floors_in e = filter_map (floor_for pages e.0) (map asked_view e.1)

  then_by : (p : List ℕ) (e : List ℕ × List Asked) (rows : Rows Asked) (b : Bool) → bytes_eq p e.0 ≡ b → listed_of (floors_for pages rows) p ≡ filter_map (floor_for pages p) (asks_at rows p)
      → cond b (floors_in e) (listed_of (floors_for pages rows) p) ≡ filter_map (floor_for pages p) (map asked_view (in_row (cond b (Some e.1) (row_of rows p))))
  then_by p e rows true same rest = ap (λ q. filter_map (floor_for pages q) (map asked_view e.1)) (sym ((bytes_eq-Decides p e.0).0 same))
  then_by p e rows false other rest = rest

  pub listed_for : (rows : Rows Asked) → AreInOrder rows → (p : List ℕ) → listed_of (floors_for pages rows) p ≡ filter_map (floor_for pages p) (asks_at rows p)
  listed_for [] ordered p = refl
  listed_for (e ∷ rows) ordered p =
      let rest = listed_for rows (others_ascend e rows ordered) p in
      let none : bytes_eq p e.0 ≡ true → listed_of (floors_for pages rows) p ≡ [] = λ same. (
      rest ∙ ap (λ o. filter_map (floor_for pages p) (map asked_view (in_row o))) (absent p rows (λ h. are_apart e.0 p (is_first e rows ordered p h) (sym ((bytes_eq-Decides p e.0).0 same))))
      ) in
      front_by p e.0 (floors_in e) (floors_for pages rows) (bytes_eq p e.0) refl none
      ∙ then_by p e rows (bytes_eq p e.0) refl rest

  some_for : (rows : Rows Asked) → NoneIsEmpty (floors_for pages rows)
  some_for [] p none = refl
  some_for (e ∷ rows) p none = some_front e.0 (floors_in e) (floors_for pages rows) (some_for rows) p none

  above_for : (P : List ℕ → Type 0) (rows : Rows Asked) → AllByRecursion P (keys_of rows) → AllByRecursion P (keys_of (floors_for pages rows))
  above_for P [] all = tt
  above_for P (e ∷ rows) all = above_front P e.0 (floors_in e) (floors_for pages rows) all.0 (above_for P rows all.1)

  ordered_for : (rows : Rows Asked) → AreInOrder rows → AreInOrder (floors_for pages rows)
  ordered_for [] ordered = ordered
  ordered_for (e ∷ rows) ordered =
      ordered_front e.0 (floors_in e) (floors_for pages rows)
      (above_for (λ p. slice_cmp nat_cmp e.0 p ≡ Less) rows (sorted_head (slice_cmp nat_cmp) e.0 (keys_of rows) ordered))
      (ordered_for rows (others_ascend e rows ordered))

  -- ---- versions

  one_version : (n : ℕ) (o : Option Version) (floors : List Floor) → versions_of (cons_option (option_map (on_line n) o) floors) ≡ cons_option o (versions_of floors)
  one_version n None floors = refl
  one_version n (Some v) floors = refl

  versions_for : (p : List ℕ) (asks : List AskOnLine) → versions_of (filter_map (floor_for pages p) asks) ≡ filter_map (version_at pages p) (map (λ a. a.ask) asks)
  versions_for p [] = refl
  versions_for p (a ∷ asks) = one_version a.line (version_at pages p a.ask) (filter_map (floor_for pages p) asks) ∙ ap (cons_option (version_at pages p a.ask)) (versions_for p asks)

  asked_by : (p : List ℕ) (a : Ask) (asks : List Ask) (b : Bool) → filter_map (version_at pages p) (cons_option (cond b (Some a) None) asks) ≡ cons_option (cond b (version_at pages p a) None) (filter_map (version_at pages p) asks)
  asked_by p a asks true = refl
  asked_by p a asks false = refl

  one_asked : (p : List ℕ) (x : Fact) (asks : List Ask) → filter_map (version_at pages p) (cons_option (ask_in p x) asks) ≡ cons_option (floor_in pages p x) (filter_map (version_at pages p) asks)
  one_asked p (need who f) asks = refl
  one_asked p (floor q a) asks = asked_by p a asks (bytes_eq q p)
  one_asked p (visit i f a) asks = refl

  versions_asked : (p : List ℕ) (facts : List Fact) → filter_map (version_at pages p) (filter_map (ask_in p) facts) ≡ filter_map (floor_in pages p) facts
  versions_asked p [] = refl
  versions_asked p (x ∷ facts) = one_asked p x (filter_map (ask_in p) facts) ∙ ap (cons_option (floor_in pages p x)) (versions_asked p facts)

  -- ---- all of it

  module _ (facts : List Fact) (rows : Rows Asked) (have : HaveAsks facts rows) where
    line_for : (p : List ℕ) (f : Floor) → Contains (filter_map (floor_for pages p) (asks_at rows p)) f → fact_at facts f.line ≡ Some (floor p (ask_of f.version))
    line_for p f h =
        let a = contains-filter_map (floor_for pages p) (asks_at rows p) f h in
        let v = map_some (on_line a.0.line) (version_at pages p a.0.ask) f a.2 in
        subst (λ (g : Floor). fact_at facts g.line ≡ Some (floor p (ask_of g.version))) v.2
        (have.lines p a.0 a.1 ∙ ap (λ b. Some (floor p b)) (sym (version_ask pages p a.0.ask v.0 v.1)))

    is_asked : (p : List ℕ) (a : Ask) → Contains facts (floor p a) → (b : AskOnLine) × Contains (asks_at rows p) b
    is_asked p a h =
        let asks : ask_in p (floor p a) ≡ Some a = ap (λ c. cond c (Some a) None) ((bytes_eq-Decides p p).1 refl) in
        let b = contains_map (λ (x : AskOnLine). x.ask) (asks_at rows p) a (subst (λ l. Contains l a) (sym (have.asks p)) (filter_map-contains (ask_in p) facts (floor p a) a h asks)) in
        (b.0, b.1)

    in_a_row : (p : List ℕ) (a : AskOnLine) (o : Option (List Asked)) → row_of rows p ≡ o → Contains (map asked_view (in_row o)) a → (e : List ℕ × List Asked) × Contains rows e × Contains (map asked_view e.1) a
    in_a_row p a None is h = absurd (contains_nothing a h)
    in_a_row p a (Some xs) is h = ((p, xs), Contains-from_lookup (λ q r. (bytes_eq-Decides q r).0) p xs rows is, h)

    pub have_floors : AreInOrder rows → ((e : List ℕ × List Asked) (a : AskOnLine) → Contains rows e → Contains (map asked_view e.1) a → ArePages pages) → HaveFloors pages facts (floors_for pages rows)
    have_floors ordered sound = record {
      versions = λ p. (
          ap versions_of (listed_for rows ordered p)
          ∙ versions_for p (asks_at rows p)
          ∙ ap (filter_map (version_at pages p)) (have.asks p)
          ∙ versions_asked p facts
          );
      lines = λ p f h. line_for p f (subst (λ l. Contains l f) (listed_for rows ordered p) h);
      some = some_for rows;
      ordered = ordered_for rows ordered;
      sound = λ p a h. (let b = is_asked p a h in let e = in_a_row p b.0 (row_of rows p) refl b.1 in sound e.0 b.0 e.1 e.2);
    }

-- ---- one ask more

one_floor : (pages : Pages) (p : List ℕ) (a : AskOnLine) (o : Option Floor) → o ≡ floor_for pages p a → option_to_list o ≡ filter_map (floor_for pages p) (a ∷ [])
one_floor pages p a None e = ap (λ (r : Option Floor). cons_option r []) e
one_floor pages p a (Some f) e = ap (λ (r : Option Floor). cons_option r []) e

module _ (p : List ℕ) (asks : List Asked) (i : ℕ) (x : Asked) (within : i < length asks) (is : x ≡ get_or asks i x) where
  asks_more : map asked_view (take (i + 1) asks) ≡ map asked_view (take i asks) ++ asked_view x ∷ []
  asks_more = ap (map asked_view) (take_more asks i x within ∙ ap (λ y. take i asks ++ y ∷ []) (sym is)) ∙ map-append asked_view (take i asks) (x ∷ [])

  one_more : (pages : Pages) (found : Option Version) (old new : List Floor) → AreFloors pages p (map asked_view (take i asks)) old → found ≡ version_at pages p (ask_view x.ask.now) → ArePages pages → new ≡ old ++ option_to_list (option_map (on_line x.line) found)
      → AreFloors pages p (map asked_view (take (i + 1) asks)) new
  one_more pages found old new before says are more =
      subst (λ l. AreFloors pages p l new) (sym asks_more)
      (record {
        are = (
            more
            ∙ ap₂ (λ (l m : List Floor). l ++ m) before.are (one_floor pages p (asked_view x) (option_map (on_line x.line) found) (ap (option_map (on_line x.line)) says))
            ∙ sym (filter_map-append (floor_for pages p) (map asked_view (take i asks)) (asked_view x ∷ []))
            );
        sound = λ a h. are;
      })

  pub floors_more : (o : Option Pages) (found : Option Version) (old new : List Floor) → IfSome o (λ pages. AreFloors pages p (map asked_view (take i asks)) old) → IfSome o (λ pages. found ≡ version_at pages p (ask_view x.ask.now)) → IfSome o (λ pages. ArePages pages)
      → new ≡ old ++ option_to_list (option_map (on_line x.line) found) → IfSome o (λ pages. AreFloors pages p (map asked_view (take (i + 1) asks)) new)
  floors_more o found old new before says kept more =
      of_both o before (of_both {R = λ pages. (found ≡ version_at pages p (ask_view x.ask.now)) × ArePages pages} o says kept (λ pages said are. (said, are))) (λ pages floors both. one_more pages found old new floors both.0 both.1 more)
