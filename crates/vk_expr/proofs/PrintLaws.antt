-- What was read and is printed reads as the same expression.
use Rattle.std.proofs.Common.{◌≡◌, ◌+◌, ◌<◌, ℕ, List, [], ◌∷◌, ◌++◌, refl, ap, sym, ◌∙◌, append_assoc, subst, arith}
use Rattle.std.specs.Prelude.{◌==◌, ◌||◌, Bool, true, false, cond, codes, Option, Some, option_map, option_to_list}
use Rattle.std.specs.List.{list_all}
use Rattle.std.specs.Str.{bytes_eq}
use Rattle.std.proofs.lemmas.List.{append-nil}
use Rattle.vk_spec.specs.Conditions.{Condition, mark, negation, conditions_of}
use Rattle.vk_expr.specs.Tokens.{Joint, both, either, Sign, Token, token, name, negates, joins, opens, closes, stray, is_blank, is_word_byte, word_of, sign_of_word, sign_of_byte, sign_begun, tokens_from, tokens_of}
use Rattle.vk_expr.specs.Grammar.{IsUnary, IsExpr, IsTail, named, negated, enclosed, alone, chain, done, more, joined_by, Reads, blank, whole}
use Rattle.vk_expr.specs.Printing.{opening, closing, printed_as, members_of, others_of, printed}
use Rattle.vk_expr.proofs.TokenLemmas.{word_more, word_ends}

-- less depth is as good
mutual
  weaker_unary : (depth : ℕ) (from rest : List Token) (t : Condition) → IsUnary depth from rest t → (less : ℕ) → depth ≡ less + 1 → IsUnary less from rest t
  weaker_unary depth _ rest _ (named _ at word _) less e = named less at word rest
  weaker_unary depth _ rest _ (negated _ at from _ t few inner) less e = negated less at from rest t (omega (arith, e, few)) (weaker_unary (depth + 1) from rest t inner (less + 1) (ap (λ n. n + 1) e))
  weaker_unary depth _ rest _ (enclosed _ at end from _ t few inner) less e = enclosed less at end from rest t (omega (arith, e, few)) (weaker_expr (depth + 1) from (token end closes ∷ rest) t inner (less + 1) (ap (λ n. n + 1) e))

  weaker_expr : (depth : ℕ) (from rest : List Token) (t : Condition) → IsExpr depth from rest t → (less : ℕ) → depth ≡ less + 1 → IsExpr less from rest t
  weaker_expr depth from rest t (alone _ _ _ _ one) less e = alone less from rest t (weaker_unary depth from rest t one less e)
  weaker_expr depth from rest _ (chain joint _ _ middle _ t next ts one tail) less e = chain joint less from middle rest t next ts (weaker_unary depth from middle t one less e) (weaker_tail joint depth middle rest (next ∷ ts) tail less e)

  weaker_tail : (joint : Joint) (depth : ℕ) (from rest : List Token) (ts : List Condition) → IsTail joint depth from rest ts → (less : ℕ) → depth ≡ less + 1 → IsTail joint less from rest ts
  weaker_tail joint depth from _ _ (done _ _ _) less e = done joint less from
  weaker_tail joint depth _ rest _ (more _ _ at from middle _ u us one tail) less e = more joint less at from middle rest u us (weaker_unary depth from middle u one less e) (weaker_tail joint depth middle rest us tail less e)

-- a word that is a name
record IsName (word : List ℕ) : Type 0 where
  first : ℕ
  later : List ℕ
  some : word ≡ first ∷ later
  bytes : list_all is_word_byte word ≡ true
  sign : sign_of_word word ≡ name word

abbrev IsNamed : Token → Type 0
IsNamed (token at (name word)) = IsName word
IsNamed (token at negates) = Unit {0}
IsNamed (token at (joins joint)) = Unit {0}
IsNamed (token at opens) = Unit {0}
IsNamed (token at closes) = Unit {0}
IsNamed (token at stray) = Unit {0}

abbrev AreNamed : List Token → Type 0
AreNamed [] = Unit {0}
AreNamed (t ∷ ts) = IsNamed t × AreNamed ts

-- what follows something named is named
mutual
  after_unary : (depth : ℕ) (from rest : List Token) (t : Condition) → IsUnary depth from rest t → AreNamed from → AreNamed rest
  after_unary depth _ rest _ (named _ at word _) names = names.1
  after_unary depth _ rest _ (negated _ at from _ t few inner) names = after_unary (depth + 1) from rest t inner names.1
  after_unary depth _ rest _ (enclosed _ at end from _ t few inner) names = (after_expr (depth + 1) from (token end closes ∷ rest) t inner names.1).1

  after_expr : (depth : ℕ) (from rest : List Token) (t : Condition) → IsExpr depth from rest t → AreNamed from → AreNamed rest
  after_expr depth from rest t (alone _ _ _ _ one) names = after_unary depth from rest t one names
  after_expr depth from rest _ (chain joint _ _ middle _ t next ts one tail) names = after_tail joint depth middle rest (next ∷ ts) tail (after_unary depth from middle t one names)

  after_tail : (joint : Joint) (depth : ℕ) (from rest : List Token) (ts : List Condition) → IsTail joint depth from rest ts → AreNamed from → AreNamed rest
  after_tail joint depth from _ _ (done _ _ _) names = names
  after_tail joint depth _ rest _ (more _ _ at from middle _ u us one tail) names = after_tail joint depth middle rest us tail (after_unary depth from middle u one names.1)

-- a text begins with no word byte
abbrev Ends : List ℕ → Type 0
Ends [] = Unit {0}
Ends (b ∷ bs) = is_word_byte b ≡ false

-- where no word byte follows, it doesn't matter whether a word came before
no_matter : (n : ℕ) (tail : List ℕ) → Ends tail → tokens_from n true tail ≡ tokens_from n false tail
unfolding tokens_from sign_begun
no_matter n [] ends = refl
no_matter n (b ∷ bs) ends = rw ends refl

word_stops : (tail : List ℕ) → Ends tail → word_of tail ≡ []
word_stops [] ends = refl
word_stops (b ∷ bs) ends = word_ends b bs ends

bytes_by : (b : ℕ) (bs : List ℕ) (r : Bool) → is_word_byte b ≡ r → list_all is_word_byte (b ∷ bs) ≡ true → (is_word_byte b ≡ true) × (list_all is_word_byte bs ≡ true)
bytes_by b bs true e every = (e, rw e at every)
bytes_by b bs false e every = cc (rw e at every)

bytes_of : (b : ℕ) (bs : List ℕ) → list_all is_word_byte (b ∷ bs) ≡ true → (is_word_byte b ≡ true) × (list_all is_word_byte bs ≡ true)
bytes_of b bs every = bytes_by b bs (is_word_byte b) refl every

-- a word that ends is found whole
word_whole : (word tail : List ℕ) → list_all is_word_byte word ≡ true → Ends tail → word_of (word ++ tail) ≡ word
word_whole [] tail bytes ends = word_stops tail ends
word_whole (b ∷ bs) tail bytes ends =
    let parts = bytes_of b bs bytes in
    word_more b (bs ++ tail) parts.0 ∙ ap (λ l. b ∷ l) (word_whole bs tail parts.1 ends)

-- no token begins inside a word
passes : (n : ℕ) (word tail : List ℕ) → list_all is_word_byte word ≡ true → (m : ℕ) × (tokens_from n true (word ++ tail) ≡ tokens_from m true tail)
unfolding tokens_from sign_begun
passes n [] tail bytes = (n, refl)
passes n (b ∷ bs) tail bytes =
    let parts = bytes_of b bs bytes in
    let later = passes (n + 1) bs tail parts.1 in
    (later.0, rw (parts.0) later.1)

name_first : (n : ℕ) (b : ℕ) (bs tail : List ℕ) → is_word_byte b ≡ true → tokens_from n false (b ∷ bs ++ tail) ≡ token n (sign_of_word (word_of (b ∷ bs ++ tail))) ∷ tokens_from (n + 1) true (bs ++ tail)
unfolding tokens_from sign_begun
name_first n b bs tail e = rw e refl

name_tokens : (n : ℕ) (word tail : List ℕ) → IsName word → Ends tail → (m : ℕ) × (tokens_from n false (word ++ tail) ≡ token n (name word) ∷ tokens_from m false tail)
name_tokens n word tail is ends =
    let bytes : list_all is_word_byte (is.first ∷ is.later) ≡ true = subst (λ w. list_all is_word_byte w ≡ true) is.some is.bytes in
    let parts = bytes_of is.first is.later bytes in
    let later = passes (n + 1) is.later tail parts.1 in
    let found : word_of (is.first ∷ is.later ++ tail) ≡ word = word_whole (is.first ∷ is.later) tail bytes ends ∙ sym is.some in (
      later.0,
      ap (λ w. tokens_from n false (w ++ tail)) is.some
          ∙ name_first n is.first is.later tail parts.0
          ∙ ap (λ w. token n (sign_of_word w) ∷ tokens_from (n + 1) true (is.later ++ tail)) found
          ∙ ap (λ s. token n s ∷ tokens_from (n + 1) true (is.later ++ tail)) is.sign
          ∙ ap (λ l. token n (name word) ∷ l) (later.1 ∙ no_matter later.0 tail ends),
    )

bang : (n : ℕ) (rest : List ℕ) → tokens_from n false (codes "!" ++ rest) ≡ token n negates ∷ tokens_from (n + 1) false rest
unfolding tokens_from sign_begun sign_of_byte
bang n rest = refl

opened : (n : ℕ) (rest : List ℕ) → tokens_from n false (codes "(" ++ rest) ≡ token n opens ∷ tokens_from (n + 1) false rest
unfolding tokens_from sign_begun sign_of_byte
opened n rest = refl

shut : (n : ℕ) (rest : List ℕ) → tokens_from n false (codes ")" ++ rest) ≡ token n closes ∷ tokens_from (n + 1) false rest
unfolding tokens_from sign_begun sign_of_byte
shut n rest = refl

abbrev between : Joint → List ℕ
between both = codes " & "
between either = codes " | "

spaced : (joint : Joint) (n : ℕ) (rest : List ℕ) → tokens_from n false (between joint ++ rest) ≡ token (n + 1) (joins joint) ∷ tokens_from (n + 1 + 1 + 1) false rest
unfolding tokens_from sign_begun sign_of_byte
spaced both n rest = refl
spaced either n rest = refl

printed_chain : (joint : Joint) (member : Bool) (ts : List Condition) → printed_as member (joined_by joint ts) ≡ opening member ++ (members_of (between joint) (conditions_of ts) ++ closing member)
printed_chain both member ts = refl
printed_chain either member ts = refl

-- an operator begins with a blank
ends_between : (joint : Joint) (rest : List ℕ) → Ends (between joint ++ rest)
ends_between both rest = refl
ends_between either rest = refl

ends_others : (joint : Joint) (ts : List Condition) (tail : List ℕ) → Ends tail → Ends (others_of (between joint) (conditions_of ts) ++ tail)
ends_others joint [] tail ends = ends
ends_others joint (t ∷ ts) tail ends = subst Ends (sym (append_assoc (between joint) (printed_as true t ++ others_of (between joint) (conditions_of ts)) tail)) (ends_between joint ((printed_as true t ++ others_of (between joint) (conditions_of ts)) ++ tail))

-- printed as a member it reads as a unary, before whatever ends a word
record PrintsUnary (depth : ℕ) (text : List ℕ) (t : Condition) (n : ℕ) (tail : List ℕ) : Type 0 where
  next : ℕ
  reads : IsUnary depth (tokens_from n false (text ++ tail)) (tokens_from next false tail) t

record PrintsExpr (depth : ℕ) (text : List ℕ) (t : Condition) (n : ℕ) (tail : List ℕ) : Type 0 where
  next : ℕ
  reads : IsExpr depth (tokens_from n false (text ++ tail)) (tokens_from next false tail) t

record PrintsTail (joint : Joint) (depth : ℕ) (text : List ℕ) (ts : List Condition) (n : ℕ) (tail : List ℕ) : Type 0 where
  next : ℕ
  reads : IsTail joint depth (tokens_from n false (text ++ tail)) (tokens_from next false tail) ts

name_prints : (depth : ℕ) (word : List ℕ) (n : ℕ) (tail : List ℕ) → IsName word → Ends tail → PrintsUnary depth word (mark word) n tail
name_prints depth word n tail is ends =
    let found = name_tokens n word tail is ends in
    record { next = found.0; reads = subst (λ l. IsUnary depth l (tokens_from found.0 false tail) (mark word)) (sym found.1) (named depth n word (tokens_from found.0 false tail)) }

not_prints : (depth : ℕ) (text : List ℕ) (t : Condition) (n : ℕ) (tail : List ℕ) → depth < 64 → PrintsUnary (depth + 1) text t (n + 1) tail → PrintsUnary depth (codes "!" ++ text) (negation t) n tail
not_prints depth text t n tail few inner = record {
  next = inner.next;
  reads = subst (λ l. IsUnary depth l (tokens_from inner.next false tail) (negation t)) (sym (bang n (text ++ tail))) (negated depth n (tokens_from (n + 1) false (text ++ tail)) (tokens_from inner.next false tail) t few inner.reads);
}

unary_alone : (depth : ℕ) (text : List ℕ) (t : Condition) (n : ℕ) (tail : List ℕ) → PrintsUnary depth text t n tail → PrintsExpr depth text t n tail
unary_alone depth text t n tail one = record { next = one.next; reads = alone depth (tokens_from n false (text ++ tail)) (tokens_from one.next false tail) t one.reads }

-- in parentheses
enclosed_prints : (depth : ℕ) (text : List ℕ) (t : Condition) (n : ℕ) (tail : List ℕ) → depth < 64 → PrintsExpr (depth + 1) text t (n + 1) (codes ")" ++ tail) → PrintsUnary depth (codes "(" ++ (text ++ codes ")")) t n tail
enclosed_prints depth text t n tail few inner =
    let regroup : (text ++ codes ")") ++ tail ≡ text ++ (codes ")" ++ tail) = append_assoc text (codes ")") tail in
    let begin : tokens_from n false ((codes "(" ++ (text ++ codes ")")) ++ tail) ≡ token n opens ∷ tokens_from (n + 1) false (text ++ (codes ")" ++ tail)) = opened n ((text ++ codes ")") ++ tail) ∙ ap (λ l. token n opens ∷ tokens_from (n + 1) false l) regroup in
    let inside : IsExpr (depth + 1) (tokens_from (n + 1) false (text ++ (codes ")" ++ tail))) (token inner.next closes ∷ tokens_from (inner.next + 1) false tail) t = subst (λ l. IsExpr (depth + 1) (tokens_from (n + 1) false (text ++ (codes ")" ++ tail))) l t) (shut inner.next tail) inner.reads in
    record {
      next = inner.next + 1;
      reads = subst (λ l. IsUnary depth l (tokens_from (inner.next + 1) false tail) t) (sym begin) (enclosed depth n inner.next (tokens_from (n + 1) false (text ++ (codes ")" ++ tail))) (tokens_from (inner.next + 1) false tail) t few inside);
    }

-- a chain
chain_prints : (joint : Joint) (depth : ℕ) (t next : Condition) (ts : List Condition) (n : ℕ) (tail : List ℕ) (one : PrintsUnary depth (printed_as true t) t n (others_of (between joint) (conditions_of (next ∷ ts)) ++ tail)) → PrintsTail joint depth (others_of (between joint) (conditions_of (next ∷ ts))) (next ∷ ts) one.next tail → PrintsExpr depth (members_of (between joint) (conditions_of (t ∷ next ∷ ts))) (joined_by joint (t ∷ next ∷ ts)) n tail
chain_prints joint depth t next ts n tail one others =
    let regroup : members_of (between joint) (conditions_of (t ∷ next ∷ ts)) ++ tail ≡ printed_as true t ++ (others_of (between joint) (conditions_of (next ∷ ts)) ++ tail) = append_assoc (printed_as true t) (others_of (between joint) (conditions_of (next ∷ ts))) tail in
    record {
      next = others.next;
      reads = subst (λ l. IsExpr depth (tokens_from n false l) (tokens_from others.next false tail) (joined_by joint (t ∷ next ∷ ts))) (sym regroup)
          (chain joint depth (tokens_from n false (printed_as true t ++ (others_of (between joint) (conditions_of (next ∷ ts)) ++ tail))) (tokens_from one.next false (others_of (between joint) (conditions_of (next ∷ ts)) ++ tail)) (tokens_from others.next false tail) t next ts one.reads others.reads);
    }

-- one more member
tail_prints : (joint : Joint) (depth : ℕ) (t : Condition) (ts : List Condition) (n : ℕ) (tail : List ℕ) (one : PrintsUnary depth (printed_as true t) t (n + 1 + 1 + 1) (others_of (between joint) (conditions_of ts) ++ tail)) → PrintsTail joint depth (others_of (between joint) (conditions_of ts)) ts one.next tail → PrintsTail joint depth (others_of (between joint) (conditions_of (t ∷ ts))) (t ∷ ts) n tail
tail_prints joint depth t ts n tail one others =
    let inner : (printed_as true t ++ others_of (between joint) (conditions_of ts)) ++ tail ≡ printed_as true t ++ (others_of (between joint) (conditions_of ts) ++ tail) = append_assoc (printed_as true t) (others_of (between joint) (conditions_of ts)) tail in
    let begin : tokens_from n false (others_of (between joint) (conditions_of (t ∷ ts)) ++ tail) ≡ token (n + 1) (joins joint) ∷ tokens_from (n + 1 + 1 + 1) false (printed_as true t ++ (others_of (between joint) (conditions_of ts) ++ tail)) =
    ap (tokens_from n false) (append_assoc (between joint) (printed_as true t ++ others_of (between joint) (conditions_of ts)) tail)
    ∙ spaced joint n ((printed_as true t ++ others_of (between joint) (conditions_of ts)) ++ tail)
    ∙ ap (λ l. token (n + 1) (joins joint) ∷ tokens_from (n + 1 + 1 + 1) false l) inner in
    record {
      next = others.next;
      reads = subst (λ l. IsTail joint depth l (tokens_from others.next false tail) (t ∷ ts)) (sym begin)
          (more joint depth (n + 1) (tokens_from (n + 1 + 1 + 1) false (printed_as true t ++ (others_of (between joint) (conditions_of ts) ++ tail))) (tokens_from one.next false (others_of (between joint) (conditions_of ts) ++ tail)) (tokens_from others.next false tail) t ts one.reads others.reads);
    }

weak_unary : (depth : ℕ) (text : List ℕ) (t : Condition) (n : ℕ) (tail : List ℕ) → PrintsUnary (depth + 1) text t n tail → PrintsUnary depth text t n tail
weak_unary depth text t n tail one = record { next = one.next; reads = weaker_unary (depth + 1) (tokens_from n false (text ++ tail)) (tokens_from one.next false tail) t one.reads depth refl }

weak_expr : (depth : ℕ) (text : List ℕ) (t : Condition) (n : ℕ) (tail : List ℕ) → PrintsExpr (depth + 1) text t n tail → PrintsExpr depth text t n tail
weak_expr depth text t n tail one = record { next = one.next; reads = weaker_expr (depth + 1) (tokens_from n false (text ++ tail)) (tokens_from one.next false tail) t one.reads depth refl }

-- a chain that is no member
bare : (joint : Joint) (depth : ℕ) (ts : List Condition) (n : ℕ) (tail : List ℕ) → PrintsExpr depth (members_of (between joint) (conditions_of ts)) (joined_by joint ts) n tail → PrintsExpr depth (printed_as false (joined_by joint ts)) (joined_by joint ts) n tail
bare joint depth ts n tail prints = subst (λ text. PrintsExpr depth text (joined_by joint ts) n tail) (sym (printed_chain joint false ts ∙ append-nil (members_of (between joint) (conditions_of ts)))) prints

-- a chain that is a member
in_parentheses : (joint : Joint) (depth : ℕ) (ts : List Condition) (n : ℕ) (tail : List ℕ) → depth < 64 → PrintsExpr (depth + 1) (members_of (between joint) (conditions_of ts)) (joined_by joint ts) (n + 1) (codes ")" ++ tail) → PrintsUnary depth (printed_as true (joined_by joint ts)) (joined_by joint ts) n tail
in_parentheses joint depth ts n tail few prints = subst (λ text. PrintsUnary depth text (joined_by joint ts) n tail) (sym (printed_chain joint true ts)) (enclosed_prints depth (members_of (between joint) (conditions_of ts)) (joined_by joint ts) n tail few prints)

mutual
  unary_prints : (depth : ℕ) (from rest : List Token) (t : Condition) → IsUnary depth from rest t → AreNamed from → (n : ℕ) (tail : List ℕ) → Ends tail → PrintsUnary depth (printed_as true t) t n tail
  unary_prints depth _ rest _ (named _ at word _) names n tail ends = name_prints depth word n tail names.0 ends
  unary_prints depth _ rest _ (negated _ at from _ t few inner) names n tail ends = not_prints depth (printed_as true t) t n tail few (unary_prints (depth + 1) from rest t inner names.1 (n + 1) tail ends)
  unary_prints depth _ rest _ (enclosed _ at end from _ t few inner) names n tail ends = member_prints (depth + 1) from (token end closes ∷ rest) t inner names.1 depth refl few n tail ends

  -- what stands in parentheses, as a member
  member_prints : (depth : ℕ) (from rest : List Token) (t : Condition) → IsExpr depth from rest t → AreNamed from → (less : ℕ) → depth ≡ less + 1 → less < 64 → (n : ℕ) (tail : List ℕ) → Ends tail → PrintsUnary less (printed_as true t) t n tail
  member_prints depth from rest t (alone _ _ _ _ one) names less e few n tail ends = weak_unary less (printed_as true t) t n tail (subst (λ d. PrintsUnary d (printed_as true t) t n tail) e (unary_prints depth from rest t one names n tail ends))
  member_prints depth from rest _ (chain joint _ _ middle _ t next ts one others) names less e few n tail ends =
      let first = unary_prints depth from middle t one names (n + 1) (others_of (between joint) (conditions_of (next ∷ ts)) ++ (codes ")" ++ tail)) (ends_others joint (next ∷ ts) (codes ")" ++ tail) refl) in
      let members = chain_prints joint depth t next ts (n + 1) (codes ")" ++ tail) first (others_print joint depth middle rest (next ∷ ts) others (after_unary depth from middle t one names) first.next (codes ")" ++ tail) refl) in
      in_parentheses joint less (t ∷ next ∷ ts) n tail few (subst (λ d. PrintsExpr d (members_of (between joint) (conditions_of (t ∷ next ∷ ts))) (joined_by joint (t ∷ next ∷ ts)) (n + 1) (codes ")" ++ tail)) e members)

  others_print : (joint : Joint) (depth : ℕ) (from rest : List Token) (ts : List Condition) → IsTail joint depth from rest ts → AreNamed from → (n : ℕ) (tail : List ℕ) → Ends tail → PrintsTail joint depth (others_of (between joint) (conditions_of ts)) ts n tail
  others_print joint depth from _ _ (done _ _ _) names n tail ends = record { next = n; reads = done joint depth (tokens_from n false tail) }
  others_print joint depth _ rest _ (more _ _ at from middle _ u us one others) names n tail ends =
      let first = unary_prints depth from middle u one names.1 (n + 1 + 1 + 1) (others_of (between joint) (conditions_of us) ++ tail) (ends_others joint us tail ends) in
      tail_prints joint depth u us n tail first (others_print joint depth middle rest us others (after_unary depth from middle u one names.1) first.next tail ends)

  -- a unary, as no member
  bare_unary_prints : (depth : ℕ) (from rest : List Token) (t : Condition) → IsUnary depth from rest t → AreNamed from → (n : ℕ) (tail : List ℕ) → Ends tail → PrintsExpr depth (printed_as false t) t n tail
  bare_unary_prints depth _ rest _ (named _ at word _) names n tail ends = unary_alone depth word (mark word) n tail (name_prints depth word n tail names.0 ends)
  bare_unary_prints depth _ rest _ (negated _ at from _ t few inner) names n tail ends = unary_alone depth (codes "!" ++ printed_as true t) (negation t) n tail (not_prints depth (printed_as true t) t n tail few (unary_prints (depth + 1) from rest t inner names.1 (n + 1) tail ends))
  bare_unary_prints depth _ rest _ (enclosed _ at end from _ t few inner) names n tail ends = weak_expr depth (printed_as false t) t n tail (expr_prints (depth + 1) from (token end closes ∷ rest) t inner names.1 n tail ends)

  expr_prints : (depth : ℕ) (from rest : List Token) (t : Condition) → IsExpr depth from rest t → AreNamed from → (n : ℕ) (tail : List ℕ) → Ends tail → PrintsExpr depth (printed_as false t) t n tail
  expr_prints depth from rest t (alone _ _ _ _ one) names n tail ends = bare_unary_prints depth from rest t one names n tail ends
  expr_prints depth from rest _ (chain joint _ _ middle _ t next ts one others) names n tail ends =
      let first = unary_prints depth from middle t one names n (others_of (between joint) (conditions_of (next ∷ ts)) ++ tail) (ends_others joint (next ∷ ts) tail ends) in
      bare joint depth (t ∷ next ∷ ts) n tail (chain_prints joint depth t next ts n tail first (others_print joint depth middle rest (next ∷ ts) others (after_unary depth from middle t one names) first.next tail ends))

-- the tokens of a text are named
word_bytes_by : (b : ℕ) (bs : List ℕ) → list_all is_word_byte (word_of bs) ≡ true → (r : Bool) → is_word_byte b ≡ r → list_all is_word_byte (word_of (b ∷ bs)) ≡ true
word_bytes_by b bs later true e = rw (word_more b bs e, e) later
word_bytes_by b bs later false e = rw (word_ends b bs e) refl

word_bytes : (bytes : List ℕ) → list_all is_word_byte (word_of bytes) ≡ true
word_bytes [] = refl
word_bytes (b ∷ bs) = word_bytes_by b bs (word_bytes bs) (is_word_byte b) refl

sign_names_by : (one two : Bool) (w word : List ℕ) → cond one negates (cond two (joins both) (name w)) ≡ name word → w ≡ word
sign_names_by true two w word e = cc
sign_names_by false true w word e = cc
sign_names_by false false w word e = cc

sign_names : (w word : List ℕ) → sign_of_word w ≡ name word → w ≡ word
unfolding sign_of_word
sign_names w word e = sign_names_by (bytes_eq w (codes "not")) (bytes_eq w (codes "and")) w word e

word_named : (w : List ℕ) (b : ℕ) (bs : List ℕ) (n : ℕ) → w ≡ b ∷ bs → list_all is_word_byte w ≡ true → (s : Sign) → sign_of_word w ≡ s → IsNamed (token n s)
word_named w b bs n some bytes (name word) is =
    let found : w ≡ word = sign_names w word is in
    record { first = b; later = bs; some = sym found ∙ some; bytes = subst (λ w. list_all is_word_byte w ≡ true) found bytes; sign = subst (λ w. sign_of_word w ≡ name word) found is }
word_named w b bs n some bytes negates is = tt
word_named w b bs n some bytes (joins joint) is = tt
word_named w b bs n some bytes opens is = tt
word_named w b bs n some bytes closes is = tt
word_named w b bs n some bytes stray is = tt

byte_named_by : (one two three four five : Bool) (n : ℕ) → IsNamed (token n (cond one negates (cond two (joins both) (cond three (joins either) (cond four opens (cond five closes stray))))))
byte_named_by true two three four five n = tt
byte_named_by false true three four five n = tt
byte_named_by false false true four five n = tt
byte_named_by false false false true five n = tt
byte_named_by false false false false true n = tt
byte_named_by false false false false false n = tt

byte_named : (b n : ℕ) → IsNamed (token n (sign_of_byte b))
unfolding sign_of_byte
byte_named b n = byte_named_by (b == 33) (b == 38) ((b == 124) || (b == 44)) (b == 40) (b == 41) n

begun_word : (b : ℕ) (bs : List ℕ) → is_word_byte b ≡ true → sign_begun false b bs ≡ Some (sign_of_word (word_of (b ∷ bs)))
unfolding sign_begun
begun_word b bs e = rw e refl

begun_named : (n : ℕ) (skipped : Bool) (b : ℕ) (bs : List ℕ) (ts : List Token) → AreNamed ts → (word gap : Bool) → is_word_byte b ≡ word → is_blank b ≡ gap → AreNamed (option_to_list (option_map (token n) (sign_begun skipped b bs)) ++ ts)
unfolding sign_begun
begun_named n true b bs ts later true gap e f = rw e later
begun_named n false b bs ts later true gap e f = subst (λ (o : Option Sign). AreNamed (option_to_list (option_map (token n) o) ++ ts)) (sym (begun_word b bs e)) (word_named (word_of (b ∷ bs)) b (word_of bs) n (word_more b bs e) (word_bytes (b ∷ bs)) (sign_of_word (word_of (b ∷ bs))) refl, later)
begun_named n skipped b bs ts later false true e f = rw (e, f) later
begun_named n skipped b bs ts later false false e f = rw (e, f) (byte_named b n, later)

-- in the tokens of a text each name is a word
tokens_named : (n : ℕ) (skipped : Bool) (text : List ℕ) → AreNamed (tokens_from n skipped text)
unfolding tokens_from
tokens_named n skipped [] = tt
tokens_named n skipped (b ∷ bs) = begun_named n skipped b bs (tokens_from (n + 1) (is_word_byte b) bs) (tokens_named (n + 1) (is_word_byte b) bs) (is_word_byte b) (is_blank b) refl refl

none_left : (n : ℕ) → tokens_from n false [] ≡ []
unfolding tokens_from
none_left n = refl

whole_again : (text : List ℕ) (t : Condition) → PrintsExpr 0 text t 0 [] → Reads text t
whole_again text t prints =
    let reads : IsExpr 0 (tokens_of text) (tokens_from prints.next false []) t = subst (λ l. IsExpr 0 (tokens_of l) (tokens_from prints.next false []) t) (append-nil text) prints.reads in
    whole text t (subst (λ l. IsExpr 0 (tokens_of text) l t) (none_left prints.next) reads)

-- what was read and is printed reads as the same expression
pub print_reads : (text : List ℕ) (t : Condition) → Reads text t → Reads (printed t) t
print_reads _ _ (blank text every) = blank [] refl
print_reads _ _ (whole text t e) = whole_again (printed t) t (expr_prints 0 (tokens_of text) [] t e (tokens_named 0 false text) 0 [] tt)
