-- A map of faults by their lines has them in order.
use Rattle.std.proofs.Common.{◌≡◌, ◌<◌, length, arith, ℕ, true, false, cond, List, [], ◌∷◌, ◌++◌, map, refl, ap, sym, ◌∙◌, subst}
use Rattle.std.specs.Prelude.{Option, Some, None, is_some, option_map, Result, Ok, Err, IfOk}
use Rattle.std.specs.declared.cmp.Ordering.{Ordering}
use Rattle.std.specs.declared.cmp.Ordering.TheVariants.{Less, Equal, Greater}
use Rattle.std.specs.Ordering.{is_eq, ordering_then, match_ordering, nat_cmp}
use Rattle.std.specs.Cmp.Lexicographic.{slice_cmp}
use Rattle.std.specs.BTreeMap.{is_at, insert_entry}
use Rattle.std.specs.Map.{lookup}
use Rattle.std.specs.List.{Contains}
use Rattle.std.proofs.lemmas.List.{append_assoc, append-nil, map-append}
use Rattle.std.proofs.lemmas.Map.Made.{lookup-map_values}
use Rattle.std.proofs.lemmas.Map.Views.{Contains-keys_from_lookup}
use Rattle.vk_spec.proofs.FileLemmas.{path_same}
use Rattle.vk_resolution.specs.Keys.{Key, key_cmp, Ascends, put_by, put_in}
use Rattle.vk_resolution.specs.Faults as plain
use Rattle.vk_resolution.specs.Lines.{fault_line}
use Rattle.vk_resolution.specs.Outcomes.{lines_of}
use Rattle.vk_resolution.proofs.Members.{contains_map}
use Rattle.vk_resolution.proofs.Orders.{before_both, in_order-ascends}
use Rattle.vk_model.specs.declared.faults.Fault.{Fault}
use Rattle.vk_model.specs.FaultViews.{fault_view, faults_view}
use Rattle.vk_fault_lines.specs.Printed.{seen, printed, PutsLine}

abbrev bytes_cmp : List ℕ → List ℕ → Ordering
bytes_cmp = slice_cmp nat_cmp

abbrev line_key : plain.Fault → Key
line_key f = fault_line f ∷ []

-- keys of one part are compared by it
then_equal : (o : Ordering) → ordering_then o Equal ≡ o
then_equal Less = refl
then_equal Equal = refl
then_equal Greater = refl

one_part : (k l : List ℕ) → key_cmp (k ∷ []) (l ∷ []) ≡ bytes_cmp k l
one_part k l = then_equal (bytes_cmp k l)

same_line : (k l : List ℕ) (o : Ordering) → bytes_cmp k l ≡ o → is_eq o ≡ true → k ≡ l
same_line k l Less at e = (cc)
same_line k l Equal at e = let same : k ∷ [] ≡ l ∷ [] = path_same (k ∷ []) (l ∷ []) (one_part k l ∙ at) in (cc)
same_line k l Greater at e = (cc)

-- ---- a line that is there

line_there : (k : List ℕ) (ys : List plain.Fault) → is_some (lookup (is_at (bytes_cmp k)) (printed ys)) ≡ true → (z : plain.Fault) × Contains ys z × (fault_line z ≡ k)
line_there k ys h =
    let p = contains_map (λ (e : List ℕ × plain.Fault). e.0) (printed ys) k (Contains-keys_from_lookup (λ x y same. same_line x y (bytes_cmp x y) refl same) k (printed ys) h) in
    let q = contains_map (λ (f : plain.Fault). (fault_line f, f)) ys p.0 p.1 in
    (q.0, q.1, ap (λ (e : List ℕ × plain.Fault). e.0) q.2 ∙ p.2)

known_by : (x y : plain.Fault) (ys later : List plain.Fault) (o : Ordering) → bytes_cmp (fault_line x) (fault_line y) ≡ o → Ascends line_key (y ∷ ys)
    → (is_some (lookup (is_at (bytes_cmp (fault_line x))) (printed ys)) ≡ true → later ≡ ys)
    → is_some (cond (is_eq o) (Some y) (lookup (is_at (bytes_cmp (fault_line x))) (printed ys))) ≡ true → put_by o x y ys later ≡ y ∷ ys
known_by x y ys later Less at ascends rest h =
    let r = line_there (fault_line x) ys h in
    let before : key_cmp (line_key y) (line_key x) ≡ Less = subst (λ k. key_cmp (line_key y) (k ∷ []) ≡ Less) r.2 (ascends.0 r.0 r.1) in
    absurd (before_both (line_key x) (line_key y) (one_part (fault_line x) (fault_line y) ∙ at) before)
known_by x y ys later Equal at ascends rest h = refl
known_by x y ys later Greater at ascends rest h = ap (λ l. y ∷ l) (rest h)

put_known : (x : plain.Fault) (ys : List plain.Fault) → Ascends line_key ys → is_some (lookup (is_at (bytes_cmp (fault_line x))) (printed ys)) ≡ true → put_in line_key x ys ≡ ys
put_known x [] ascends h = (cc)
put_known x (y ∷ ys) ascends h =
    ap (λ o. put_by o x y ys (put_in line_key x ys)) (one_part (fault_line x) (fault_line y))
    ∙ known_by x y ys (put_in line_key x ys) (bytes_cmp (fault_line x) (fault_line y)) refl ascends (put_known x ys ascends.1) h

-- ---- a new line

new_by : (x y : plain.Fault) (ys later : List plain.Fault) (rest : List (List ℕ × plain.Fault)) (o : Ordering) (found : Option plain.Fault)
    → (is_some found ≡ false → rest ≡ printed later) → is_some (cond (is_eq o) (Some y) found) ≡ false
    → match_ordering o ((fault_line x, x) ∷ (fault_line y, y) ∷ printed ys) ((fault_line y, x) ∷ printed ys) ((fault_line y, y) ∷ rest) ≡ printed (put_by o x y ys later)
new_by x y ys later rest Less found more h = refl
new_by x y ys later rest Equal found more h = (cc)
new_by x y ys later rest Greater found more h = ap (λ l. (fault_line y, y) ∷ l) (more h)

put_new : (x : plain.Fault) (ys : List plain.Fault) → is_some (lookup (is_at (bytes_cmp (fault_line x))) (printed ys)) ≡ false → insert_entry bytes_cmp (printed ys) (fault_line x) x ≡ printed (put_in line_key x ys)
put_new x [] h = refl
put_new x (y ∷ ys) h =
    new_by x y ys (put_in line_key x ys) (insert_entry bytes_cmp (printed ys) (fault_line x) x) (bytes_cmp (fault_line x) (fault_line y)) (lookup (is_at (bytes_cmp (fault_line x))) (printed ys)) (put_new x ys) h
    ∙ ap (λ o. printed (put_by o x y ys (put_in line_key x ys))) (sym (one_part (fault_line x) (fault_line y)))

-- ---- entries as they are seen

seen_by : (o : Ordering) (a b c : List (List ℕ × Fault)) → seen (match_ordering o a b c) ≡ match_ordering o (seen a) (seen b) (seen c)
seen_by Less a b c = refl
seen_by Equal a b c = refl
seen_by Greater a b c = refl

seen_put : (es : List (List ℕ × Fault)) (k : List ℕ) (v : Fault) → seen (insert_entry bytes_cmp es k v) ≡ insert_entry bytes_cmp (seen es) k (fault_view v)
seen_put [] k v = refl
seen_put (e ∷ es) k v =
    seen_by (bytes_cmp k e.0) ((k, v) ∷ e ∷ es) ((e.0, v) ∷ es) (e ∷ insert_entry bytes_cmp es k v)
    ∙ ap (λ l. match_ordering (bytes_cmp k e.0) ((k, fault_view v) ∷ seen (e ∷ es)) ((e.0, fault_view v) ∷ seen es) ((e.0, fault_view e.1) ∷ l)) (seen_put es k v)

some_of : {X Y : Type 0} (f : X → Y) (o : Option X) → is_some (option_map f o) ≡ is_some o
some_of f None = refl
some_of f (Some x) = refl

found_seen : (es : List (List ℕ × Fault)) (k : List ℕ) (ys : List plain.Fault) → seen es ≡ printed ys → is_some (lookup (is_at (bytes_cmp k)) (printed ys)) ≡ is_some (lookup (is_at (bytes_cmp k)) es)
found_seen es k ys e =
    ap (λ l. is_some (lookup (is_at (bytes_cmp k)) l)) (sym e)
    ∙ ap is_some (lookup-map_values fault_view (is_at (bytes_cmp k)) es)
    ∙ some_of fault_view (lookup (is_at (bytes_cmp k)) es)

module _ (es : List (List ℕ × Fault)) (k : List ℕ) (v : Fault) (is : k ≡ fault_line (fault_view v)) where
  pub line_known : is_some (lookup (is_at (bytes_cmp k)) es) ≡ true → PutsLine (fault_view v) es es
  line_known h = record {
    puts = λ faults e.
        e ∙ ap printed (sym (put_known (fault_view v) (lines_of fault_line faults) (in_order-ascends line_key faults)
        (subst (λ l. is_some (lookup (is_at (bytes_cmp l)) (printed (lines_of fault_line faults))) ≡ true) is (found_seen es k (lines_of fault_line faults) e ∙ h))));
  }

  pub line_new : is_some (lookup (is_at (bytes_cmp k)) es) ≡ false → PutsLine (fault_view v) es (insert_entry bytes_cmp es k v)
  line_new h = record {
    puts = λ faults e.
        seen_put es k v ∙ ap (λ l. insert_entry bytes_cmp l k (fault_view v)) e ∙ ap (λ l. insert_entry bytes_cmp (printed (lines_of fault_line faults)) l (fault_view v)) is
        ∙ put_new (fault_view v) (lines_of fault_line faults) (subst (λ l. is_some (lookup (is_at (bytes_cmp l)) (printed (lines_of fault_line faults))) ≡ false) is (found_seen es k (lines_of fault_line faults) e ∙ h));
  }

-- the faults of the lines
pub printed_faults : (faults : List plain.Fault) → map (λ e. e.1) (printed faults) ≡ faults
printed_faults [] = refl
printed_faults (f ∷ faults) = ap (λ l. f ∷ l) (printed_faults faults)

-- ---- taken away, one by one

pub none_left : {X : Type 0} (xs : List X) → (0 < length xs → ⊥) → xs ≡ []
none_left [] none = refl
none_left (x ∷ xs) none = absurd (none (omega arith))

pub one_less : (fs rest : List Fault) (f : Fault) (done all : List plain.Fault) → fs ≡ rest ++ f ∷ [] → map fault_view fs ++ done ≡ all → map fault_view rest ++ (fault_view f ∷ done) ≡ all
one_less fs rest f done all is h =
    sym (append_assoc (map fault_view rest) (fault_view f ∷ []) done)
    ∙ ap (λ l. l ++ done) (sym (map-append fault_view rest (f ∷ [])))
    ∙ ap (λ l. map fault_view l ++ done) (sym is) ∙ h

abbrev pub faults_seen : List (List ℕ × Fault) → List plain.Fault
faults_seen es = map (λ e. e.1) (seen es)

pub one_more : (fs gs : List Fault) (f : Fault) (es rest : List (List ℕ × Fault)) (e : List ℕ × Fault) (total : List plain.Fault) → gs ≡ fs ++ f ∷ [] → fault_view f ≡ fault_view e.1 → es ≡ e ∷ rest
    → faults_view fs ++ faults_seen es ≡ total → faults_view gs ++ faults_seen rest ≡ total
one_more fs gs f es rest e total more same is h =
    ap (λ l. faults_view l ++ faults_seen rest) more
    ∙ ap (λ l. l ++ faults_seen rest) (map-append fault_view fs (f ∷ []))
    ∙ append_assoc (faults_view fs) (fault_view f ∷ []) (faults_seen rest)
    ∙ ap (λ x. faults_view fs ++ x ∷ faults_seen rest) same
    ∙ ap (λ l. faults_view fs ++ faults_seen l) (sym is) ∙ h

pub all_taken : (fs : List Fault) (es : List (List ℕ × Fault)) (total : List plain.Fault) → es ≡ [] → faults_view fs ++ faults_seen es ≡ total → faults_view fs ≡ total
all_taken fs es total none h = sym (append-nil (faults_view fs)) ∙ ap (λ l. faults_view fs ++ faults_seen l) (sym none) ∙ h

-- the faults of lines in order
pub in_order_are : {E : Type 0} (answer : Result (List Fault) E) (es : List (List ℕ × Fault)) (faults : List plain.Fault) → IfOk answer (λ l. faults_view l ≡ faults_seen es) → seen es ≡ printed faults → IfOk answer (λ l. faults_view l ≡ faults)
in_order_are (Ok l) es faults is e = is ∙ ap (map (λ x. x.1)) e ∙ printed_faults faults
in_order_are (Err e) es faults is same = tt
