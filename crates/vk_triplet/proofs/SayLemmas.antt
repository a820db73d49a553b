-- What is found in a line stands there as the grammar says.
use Rattle.std.proofs.Common.{◌≡◌, ◌<◌, ◌++◌, ℕ, Bool, true, false, eqb, List, [], ◌∷◌, length, take, drop, map, inl, inr, refl, ap, sym, ◌∙◌, append_assoc, subst, arith, codes}
use Rattle.std.specs.Prelude.{Option, Some, None, ◌⊎◌, if◌then◌else◌}
use Rattle.std.specs.Char.{to_ascii_lowercase}
use Rattle.std.specs.List.{prefix_len, list_all}
use Rattle.std.specs.Str.{str_eq_ignore_ascii_case}
use Rattle.std.proofs.lemmas.Bool.{eqb-true, eqb-false}
use Rattle.std.proofs.lemmas.List.{take-append-drop}
use Rattle.std.proofs.lemmas.List.Folds.{length-prefix_len}
use Rattle.std.proofs.lemmas.Slice.Eq.{bytes_eq-Decides}
use Rattle.vk_triplet.specs.Lines.{IsBlanks, IsBare, IsQuoted, IsGivenValue, IsSet, IsComment, Says, is_blank, is_name_byte, is_bare_byte, is_quoted_byte}
use Rattle.vk_triplet.specs.declared.triplets.Variable.{Variable}
use Rattle.vk_triplet.specs.LineReadings.{◌>>=◌, front_of, past, after_byte, after_set, some_front, quoted_value, value_from, value_at, blank_value, closed, written_at, given_from, given_at, opened, set_at, begins_comment, is_done, only_set, said_by}
use Rattle.vk_triplet.proofs.FrontLemmas.{front_all}

-- what was found, and what it went on to
bind_some : {A B : Type 0} (m : Option A) (f : A → Option B) (y : B) → (m >>= f) ≡ Some y → (x : A) × (m ≡ Some x) × (f x ≡ Some y)
bind_some None f y e = (cc)
bind_some (Some x) f y e = (x, refl, e)

then_some : {A : Type 0} (b : Bool) (x y : A) → (if b then Some x else None) ≡ Some y → (b ≡ true) × (x ≡ y)
then_some true x y e = (refl, cc)
then_some false x y e = (cc)

else_some : {A : Type 0} (b : Bool) (x y : A) → (if b then None else Some x) ≡ Some y → (b ≡ false) × (x ≡ y)
else_some true x y e = (cc)
else_some false x y e = (refl, cc)

some_same : {A : Type 0} (x y : A) → Some x ≡ Some y → x ≡ y
some_same x y e = cc

front_is : (test : ℕ → Bool) (text : List ℕ) → text ≡ front_of test text ++ past test text
front_is test text = sym (take-append-drop (prefix_len test text) text)

after_byte_is : (byte : ℕ) (text rest : List ℕ) → after_byte byte text ≡ Some rest → text ≡ byte ∷ rest
after_byte_is byte [] rest e = (cc)
after_byte_is byte (b ∷ more) rest e =
    let both = then_some (eqb b byte) more rest e in
    let same = eqb-true b byte both.0 in
    rw (same, both.1) refl

pub record IsFront (test : ℕ → Bool) (text : List ℕ) (cut : List ℕ × List ℕ) : Type 0 where
  pub split : text ≡ cut.0 ++ cut.1
  pub all : list_all test cut.0 ≡ true
  pub some : 0 < length cut.0

positive : (n m : ℕ) → m ≡ n → (n ≡ 0 → ⊥) → 0 < m
positive n m e some = grind arith

some_front_is : (test : ℕ → Bool) (text : List ℕ) (cut : List ℕ × List ℕ) → some_front test text ≡ Some cut → IsFront test text cut
some_front_is test text cut e =
    let both = else_some (eqb (prefix_len test text) 0) (front_of test text, past test text) cut e in
    rw (← both.1) (record {
      split = front_is test text;
      all = front_all test text;
      some = positive (prefix_len test text) (length (front_of test text)) (length-prefix_len test text) (eqb-false (prefix_len test text) 0 both.0);
    })

closed_is : (text rest : List ℕ) → closed text ≡ Some rest → text ≡ front_of is_blank text ++ 41 ∷ rest
closed_is text rest e = front_is is_blank text ∙ ap (λ l. front_of is_blank text ++ l) (after_byte_is 41 (past is_blank text) rest e)

-- a value as it is written, and what stands after it
pub record IsValue (text : List ℕ) (cut : List ℕ × List ℕ) : Type 0 where
  pub written : List ℕ
  pub split : text ≡ written ++ cut.1
  pub form : IsBare written cut.0 ⊎ IsQuoted written cut.0

quoted_value_is : (text quoted : List ℕ) (cut : List ℕ × List ℕ) → text ≡ 34 ∷ quoted → quoted_value quoted ≡ Some cut → IsValue text cut
quoted_value_is text quoted cut begins e =
    let found = bind_some (after_byte 34 (past is_quoted_byte quoted)) (λ rest. Some (front_of is_quoted_byte quoted, rest)) cut e in
    let quote = after_byte_is 34 (past is_quoted_byte quoted) found.0 found.1 in
    let same = some_same (front_of is_quoted_byte quoted, found.0) cut found.2 in
    let split : quoted ≡ front_of is_quoted_byte quoted ++ 34 ∷ found.0 = front_is is_quoted_byte quoted ∙ ap (λ l. front_of is_quoted_byte quoted ++ l) quote in
    rw (← same) (record {
      written = 34 ∷ (front_of is_quoted_byte quoted ++ 34 ∷ []);
      split = begins ∙ ap (λ l. 34 ∷ l) (split ∙ sym (append_assoc (front_of is_quoted_byte quoted) (34 ∷ []) found.0));
      form = inr (record { quotes = refl; bytes = front_all is_quoted_byte quoted });
    })

value_from_is : (text : List ℕ) (quoted : Option (List ℕ)) (cut : List ℕ × List ℕ) → after_byte 34 text ≡ quoted → value_from text quoted ≡ Some cut → IsValue text cut
value_from_is text None cut begins e =
    let f = some_front_is is_bare_byte text cut e in
    record { written = cut.0; split = f.split; form = inl (record { same = refl; some = f.some; bytes = f.all }) }
value_from_is text (Some quoted) cut begins e = quoted_value_is text quoted cut (after_byte_is 34 text quoted begins) e

value_at_is : (text : List ℕ) (cut : List ℕ × List ℕ) → value_at text ≡ Some cut → IsValue text cut
value_at_is text cut e = value_from_is text (after_byte 34 text) cut refl e

-- what is given after a name, and what stands after the closing parenthesis
pub record IsGiven (text : List ℕ) (cut : List ℕ × List ℕ) : Type 0 where
  pub given : List ℕ
  pub end : List ℕ
  pub split : text ≡ given ++ (end ++ 41 ∷ cut.1)
  pub blank : IsBlanks end
  pub gives : IsGivenValue given cut.0

written_at_is : (text : List ℕ) (cut : List ℕ × List ℕ) → written_at text ≡ Some cut → IsGiven text cut
written_at_is text cut e =
    let found = bind_some (blank_value text) (λ c. closed c.1 >>= λ rest. Some (c.0, rest)) cut e in
    let apart = bind_some (some_front is_blank text) (λ c. value_at c.1) found.0 found.1 in
    let blanks = some_front_is is_blank text apart.0 apart.1 in
    let value = value_at_is apart.0.1 found.0 apart.2 in
    let end = bind_some (closed found.0.1) (λ rest. Some (found.0.0, rest)) cut found.2 in
    let same = some_same (found.0.0, end.0) cut end.2 in
    let tail : found.0.1 ≡ front_of is_blank found.0.1 ++ 41 ∷ end.0 = closed_is found.0.1 end.0 end.1 in
    rw (← same) (record {
      given = apart.0.0 ++ value.written;
      end = front_of is_blank found.0.1;
      split = blanks.split ∙ ap (λ l. apart.0.0 ++ l) (value.split ∙ ap (λ l. value.written ++ l) tail) ∙ sym (append_assoc apart.0.0 value.written (front_of is_blank found.0.1 ++ 41 ∷ end.0));
      blank = front_all is_blank found.0.1;
      gives = inr (record { blanks = apart.0.0; written = value.written; split = refl; blank = blanks.all; apart = blanks.some; form = value.form });
    })

given_from_is : (text : List ℕ) (rest : Option (List ℕ)) (cut : List ℕ × List ℕ) → closed text ≡ rest → given_from text rest ≡ Some cut → IsGiven text cut
given_from_is text None cut c e = written_at_is text cut e
given_from_is text (Some rest) cut c e =
    let same = some_same ([], rest) cut e in
    rw (← same) (record { given = []; end = front_of is_blank text; split = closed_is text rest c; blank = front_all is_blank text; gives = inl (refl, refl) })

given_at_is : (text : List ℕ) (cut : List ℕ × List ℕ) → given_at text ≡ Some cut → IsGiven text cut
given_at_is text cut e = given_from_is text (closed text) cut refl e

-- `set`, a parenthesis and blanks round it
pub record Opens (text rest : List ℕ) : Type 0 where
  pub word : List ℕ
  pub outside : List ℕ
  pub inside : List ℕ
  pub split : text ≡ word ++ (outside ++ 40 ∷ (inside ++ rest))
  pub set : map to_ascii_lowercase word ≡ codes "set"
  pub blank : IsBlanks outside × IsBlanks inside

opened_is : (text rest : List ℕ) → opened text ≡ Some rest → Opens text rest
opened_is text rest e =
    let found = bind_some (after_set text) (λ l. after_byte 40 (past is_blank l) >>= λ inside. Some (past is_blank inside)) rest e in
    let word = then_some (str_eq_ignore_ascii_case (take 3 text) (codes "set")) (drop 3 text) found.0 found.1 in
    let paren = bind_some (after_byte 40 (past is_blank found.0)) (λ inside. Some (past is_blank inside)) rest found.2 in
    let same = some_same (past is_blank paren.0) rest paren.2 in
    let inner : paren.0 ≡ front_of is_blank paren.0 ++ rest = front_is is_blank paren.0 ∙ ap (λ l. front_of is_blank paren.0 ++ l) same in
    let outer : found.0 ≡ front_of is_blank found.0 ++ 40 ∷ paren.0 = front_is is_blank found.0 ∙ ap (λ l. front_of is_blank found.0 ++ l) (after_byte_is 40 (past is_blank found.0) paren.0 paren.1) in
    record {
      word = take 3 text;
      outside = front_of is_blank found.0;
      inside = front_of is_blank paren.0;
      split = sym (take-append-drop 3 text) ∙ ap (λ l. take 3 text ++ l) (word.1 ∙ outer ∙ ap (λ l. front_of is_blank found.0 ++ 40 ∷ l) inner);
      set = (bytes_eq-Decides (map to_ascii_lowercase (take 3 text)) (codes "set")).0 word.0;
      blank = (front_all is_blank found.0, front_all is_blank paren.0);
    }

-- a command, and what stands after it
pub record IsCommand (text : List ℕ) (cut : Variable × List ℕ) : Type 0 where
  pub command : List ℕ
  pub split : text ≡ command ++ cut.1
  pub form : IsSet command cut.0

regrouped : (a b c d e f rest : List ℕ) → a ++ (b ++ 40 ∷ (c ++ (d ++ (e ++ (f ++ 41 ∷ rest))))) ≡ (a ++ (b ++ 40 ∷ (c ++ (d ++ (e ++ (f ++ 41 ∷ [])))))) ++ rest
regrouped a b c d e f rest = simp append_assoc

set_at_is : (text : List ℕ) (cut : Variable × List ℕ) → set_at text ≡ Some cut → IsCommand text cut
set_at_is text cut e =
    let opening = bind_some (opened text) (λ inside. some_front is_name_byte inside >>= λ name. given_at name.1 >>= λ given. Some (record { name = name.0; value = given.0 }, given.1)) cut e in
    let o = opened_is text opening.0 opening.1 in
    let named = bind_some (some_front is_name_byte opening.0) (λ name. given_at name.1 >>= λ given. Some (record { name = name.0; value = given.0 }, given.1)) cut opening.2 in
    let n = some_front_is is_name_byte opening.0 named.0 named.1 in
    let gave = bind_some (given_at named.0.1) (λ given. Some (record { name = named.0.0; value = given.0 }, given.1)) cut named.2 in
    let g = given_at_is named.0.1 gave.0 gave.1 in
    let same = some_same (record { name = named.0.0; value = gave.0.0 }, gave.0.1) cut gave.2 in
    rw (← same) (record {
      command = o.word ++ (o.outside ++ 40 ∷ (o.inside ++ (named.0.0 ++ (g.given ++ (g.end ++ 41 ∷ [])))));
      split = o.split ∙ ap (λ l. o.word ++ (o.outside ++ 40 ∷ (o.inside ++ l))) (n.split ∙ ap (λ l. named.0.0 ++ l) g.split) ∙ regrouped o.word o.outside o.inside named.0.0 g.given g.end gave.0.1;
      form = record {
        word = o.word;
        outside = o.outside;
        inside = o.inside;
        given = g.given;
        end = g.end;
        split = refl;
        set = o.set;
        blank = (o.blank.0, o.blank.1, g.blank);
        some = n.some;
        name = n.all;
        value = g.gives;
      };
    })

-- blanks and a comment
begins_comment_is : (text : List ℕ) → begins_comment text ≡ true → IsComment text
begins_comment_is [] e = inl refl
begins_comment_is (b ∷ rest) e = inr (rest, rw (eqb-true b 35 e) refl)

only_set_is : (text : List ℕ) (variable : Variable) → only_set text ≡ Some variable → (rest : List ℕ) × IsCommand text (variable, rest) × (is_done rest ≡ true)
only_set_is text variable e =
    let found = bind_some (set_at text) (λ cut. if is_done cut.1 then Some cut.0 else None) variable e in
    let both = then_some (is_done found.0.1) found.0.0 variable found.2 in
    (found.0.1, subst (λ (s : Variable). IsCommand text (s, found.0.1)) both.1 (set_at_is text found.0 found.1), both.0)

says_nothing : (line : List ℕ) → is_done line ≡ true → Says line None
says_nothing line done = record {
  before = front_of is_blank line;
  command = [];
  after = [];
  comment = past is_blank line;
  split = front_is is_blank line;
  blank = (front_all is_blank line, refl);
  rest = begins_comment_is (past is_blank line) done;
  form = refl;
}

says_set : (line : List ℕ) (variable : Variable) → only_set (past is_blank line) ≡ Some variable → Says line (Some variable)
says_set line variable e =
    let only = only_set_is (past is_blank line) variable e in
    let c = only.1 in
    record {
      before = front_of is_blank line;
      command = c.command;
      after = front_of is_blank only.0;
      comment = past is_blank only.0;
      split = front_is is_blank line ∙ ap (λ l. front_of is_blank line ++ l) (c.split ∙ ap (λ l. c.command ++ l) (front_is is_blank only.0));
      blank = (front_all is_blank line, front_all is_blank only.0);
      rest = begins_comment_is (past is_blank only.0) only.2;
      form = c.form;
    }

says_cases : (line : List ℕ) (said : Option Variable) (done : Bool) → is_done line ≡ done → (if done then Some None else (only_set (past is_blank line) >>= λ variable. Some (Some variable))) ≡ Some said → Says line said
says_cases line said true done e = rw (← some_same None said e) (says_nothing line done)
says_cases line said false done e =
    let found = bind_some (only_set (past is_blank line)) (λ variable. Some (Some variable)) said e in
    rw (← some_same (Some found.0) said found.2) (says_set line found.0 found.1)

-- what is found in a line is what the line says
pub says_found : (line : List ℕ) (said : Option Variable) → said_by line ≡ Some said → Says line said
says_found line said e = says_cases line said (is_done line) refl e
