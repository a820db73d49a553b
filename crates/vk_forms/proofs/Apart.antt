-- No two right values have one text: pairs, choices, and the leaves of lines.
use Rattle.std.proofs.Common.{◌≡◌, ◌≢◌, ◌==◌, ◌∷◌, ℕ, List, [], inl, inr, refl, ap, sym, ◌∙◌, subst, append_assoc, codes, arith}
use Rattle.std.specs.Prelude.{Some, None, decimal, slice_index, if◌then◌else◌}
use Rattle.std.proofs.lemmas.Fmt.{decimal_injective}
use Rattle.std.proofs.lemmas.List.Elements.{All-cons, All-head, All-nil}
use Rattle.vk_spec.specs.Pages.{Field, name, class, text, port}
use Rattle.vk_spec.specs.Versions as plain
use Rattle.vk_spec.specs.Versions.{ask_of}
use Rattle.vk_base.specs.Names.{IsName, NameRule, port_rule}
use Rattle.vk_base.specs.Paths.{Lacks, text_of_path}
use Rattle.vk_base.specs.PathReading.{path_of}
use Rattle.vk_base.specs.Printed.{field_word, path_text, version_text}
use Rattle.vk_base.specs.Tokens.{IsByte, token_of}
use Rattle.vk_base.proofs.PathLaws.{text_back}
use Rattle.vk_base.proofs.PathLemmas.{lacks_byte}
use Rattle.vk_base.proofs.TokenLemmas.{tokens_differ}
use Rattle.vk_json.specs.Places.{place_text}
use Rattle.vk_model.specs.Lines.{features_text}
use Rattle.vk_resolution.specs.Lines.{version_or_none}
use Rattle.vk_forms.specs.Lines.{IsLine}
use Rattle.vk_forms.specs.Choices.{either_text, IsRightEither}
use Rattle.vk_forms.specs.Features.{AreFeatures, between_commas}
use Rattle.vk_forms.specs.Forms.{TellsApart, pair_text, IsRightPair}
use Rattle.vk_forms.specs.Names.{IsPortIfAny, port_or_root}
use Rattle.vk_forms.specs.Paths.{IsPlace, IsRightPath}
use Rattle.vk_forms.specs.Words.{Any}
use Rattle.vk_forms.specs.Texts.{IsText}
use Rattle.vk_forms.specs.Versions.{IsRightAsk, IsRightIfAny, IsRightVersion}
use Rattle.vk_forms.proofs.FeatureForms.{features_again}
use Rattle.vk_forms.proofs.NameForms.{name_lacks, name_token}
use Rattle.vk_forms.proofs.PairForms.{lacks_none, same_pair}
use Rattle.vk_forms.proofs.PathForms.{ok_same}
use Rattle.vk_forms.proofs.VersionForms.{hash_lacks}

-- ---- pairs and choices

pair_is : {A B : Type 0} (p q : A × B) → p.0 ≡ q.0 → p.1 ≡ q.1 → p ≡ q
pair_is p q one other = ap (λ a. (a, p.1)) one ∙ ap (λ b. (q.0, b)) other

pub pair_apart : {A B : Type 0} (mark : ℕ) (one : A → List ℕ) (other : B → List ℕ) (is_right_one : A → Type 0) (is_right_other : B → Type 0)
    → TellsApart one is_right_one → TellsApart other is_right_other → TellsApart (pair_text mark one other) (IsRightPair mark one is_right_one is_right_other)
pair_apart mark one other is_right_one is_right_other first second p q left right e =
    let same = same_pair mark (one p.0) (one q.0) (other p.1) (other q.1) left.1 right.1 e in
    pair_is p q (first p.0 q.0 left.0 right.0 same.0) (second p.1 q.1 left.2 right.2 same.1)

-- no text is one of both
abbrev pub AreOthers : {P Q : Type 0} → (P → List ℕ) → (P → Type 0) → (Q → List ℕ) → (Q → Type 0) → Type 0
AreOthers {P = P} {Q = Q} one is_right_one other is_right_other = (p : P) (q : Q) → is_right_one p → is_right_other q → one p ≡ other q → ⊥

pub either_apart : {P Q : Type 0} (one : P → List ℕ) (other : Q → List ℕ) (is_right_one : P → Type 0) (is_right_other : Q → Type 0)
    → TellsApart one is_right_one → TellsApart other is_right_other → AreOthers one is_right_one other is_right_other → TellsApart (either_text one other) (IsRightEither is_right_one is_right_other)
either_apart one other is_right_one is_right_other first second clash (inl x) (inl y) left right e = ap inl (first x y left right e)
either_apart one other is_right_one is_right_other first second clash (inr x) (inr y) left right e = ap inr (second x y left right e)
either_apart one other is_right_one is_right_other first second clash (inl x) (inr y) left right e = absurd (clash x y left right e)
either_apart one other is_right_one is_right_other first second clash (inr x) (inl y) left right e = absurd (clash y x right left (sym e))

-- a word tells its one value
pub word_apart : (word : List ℕ) → TellsApart (λ u. word) Any
word_apart word x y left right e = refl

-- ---- leaves

pub name_apart : (rule : NameRule) → TellsApart token_of (IsName rule)
name_apart rule x y left right e = sym (name_token rule x left) ∙ e ∙ name_token rule y right

pub text_apart : TellsApart token_of IsText
text_apart x y left right e = tokens_differ x y left.bytes right.bytes e

pub number_apart : TellsApart decimal IsLine
number_apart m n left right e = decimal_injective m n (omega (arith, left)) (omega (arith, right)) e

ask_is : (a b : plain.Ask) → a.text ≡ b.text → a.port ≡ b.port → a ≡ b
ask_is a b one other = ap (λ t. record { text = t; port = a.port }) one ∙ ap (λ n. record { text = b.text; port = n }) other

pub ask_apart : TellsApart version_text IsRightAsk
ask_apart a b left right e =
    let same = same_pair 35 (token_of a.text) (token_of b.text) (decimal a.port) (decimal b.port) (hash_lacks a.text left.text) (hash_lacks b.text right.text)
    (sym (append_assoc (token_of a.text) (35 ∷ []) (decimal a.port)) ∙ e ∙ append_assoc (token_of b.text) (35 ∷ []) (decimal b.port)) in
    ask_is a b (text_apart a.text b.text left.text.is_text right.text.is_text same.0) (number_apart a.port b.port left.small right.small same.1)

version_is : (v w : plain.Version) → v.class ≡ plain.text → w.class ≡ plain.text → ask_of v ≡ ask_of w → v ≡ w
version_is v w one other same =
    ap (λ c. record { class = c; text = v.text; port = v.port }) (one ∙ sym other)
    ∙ ap (λ a. record { class = w.class; text = a.text; port = a.port }) same

pub version_apart : TellsApart (λ v. version_text (ask_of v)) IsRightVersion
version_apart v w left right e = version_is v w left.class right.class (ask_apart (ask_of v) (ask_of w) left.ask right.ask e)

no_dot : (p : List ℕ) → IsName port_rule p → codes "." ≡ token_of p → ⊥
no_dot p right e = All-head (λ c. c ≢ 46) 46 [] (subst (Lacks 46) (sym e) (name_lacks port_rule 46 p refl right)) refl

pub port_apart : TellsApart port_or_root IsPortIfAny
port_apart None None left right e = refl
port_apart None (Some q) left right e = absurd (no_dot q right e)
port_apart (Some p) None left right e = absurd (no_dot p left (sym e))
port_apart (Some p) (Some q) left right e = ap (λ l. Some l) (name_apart port_rule p q left right e)

no_hash : (v : plain.Version) → codes "-" ≡ version_text (ask_of v) → ⊥
no_hash v e = lacks_none 35 (token_of v.text) (decimal v.port) (subst (Lacks 35) (e ∙ append_assoc (token_of v.text) (35 ∷ []) (decimal v.port)) (lacks_byte 35 (codes "-") refl))

pub if_any_apart : TellsApart version_or_none IsRightIfAny
if_any_apart None None left right e = refl
if_any_apart None (Some w) left right e = absurd (no_hash w e)
if_any_apart (Some v) None left right e = absurd (no_hash v (sym e))
if_any_apart (Some v) (Some w) left right e = ap (λ x. Some x) (version_apart v w left right e)

pub path_apart : TellsApart path_text IsRightPath
path_apart p q left right e =
    let same = text_apart (text_of_path p) (text_of_path q) left.is_text right.is_text e in
    ok_same (path_of (text_of_path p)) p q (text_back p left.is_short.path left.is_short.short) (ap path_of same ∙ text_back q right.is_short.path right.is_short.short)

dash_token : token_of (codes "-") ≡ codes "-"
unfolding token_of
dash_token = refl

dash_slash : (b : ℕ) (place : List ℕ) → b ≡ 47 → codes "-" ≡ b ∷ place → ⊥
dash_slash b place slash e = (cc)

dash_is : (b : ℕ) (place : List ℕ) → IsText (b ∷ place) → b ≡ 47 → codes "-" ≡ token_of (b ∷ place) → ⊥
dash_is b place is slash e =
    let same : codes "-" ≡ b ∷ place = tokens_differ (codes "-") (b ∷ place) (All-cons IsByte 45 [] (omega arith) (All-nil IsByte)) is.bytes (dash_token ∙ e) in
    dash_slash b place slash same

pub place_apart : TellsApart place_text IsPlace
place_apart [] [] left right e = refl
place_apart [] (b ∷ q) left right e = absurd (dash_is b q right.1 right.0 e)
place_apart (a ∷ p) [] left right e = absurd (dash_is a p left.1 left.0 (sym e))
place_apart (a ∷ p) (b ∷ q) left right e = text_apart (a ∷ p) (b ∷ q) left.1 right.1 e

-- a field is known by the first bytes of its word
field_named : List ℕ → Field
field_named word = if slice_index word 0 == 110 then name else if slice_index word 0 == 99 then class else if slice_index word 0 == 116 then text else port

field_again : (field : Field) → field_named (field_word field) ≡ field
unfolding field_named
field_again name = refl
field_again class = refl
field_again text = refl
field_again port = refl

pub field_apart : TellsApart field_word (λ field. Unit {0})
field_apart x y left right e = sym (field_again x) ∙ ap field_named e ∙ field_again y

pub features_apart : TellsApart features_text AreFeatures
features_apart x y left right e = sym (features_again x left) ∙ ap between_commas e ∙ features_again y right
