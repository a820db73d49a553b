-- What readings of texts and versions give, and where what they tell stands.
use Rattle.std.proofs.Common.{◌≡◌, ◌≢◌, ℕ, Bool, true, false, List, refl, sym, subst}
use Rattle.std.specs.Prelude.{Option, Some, None, IsSome, IfSome, Result, Ok, Err, codes, if◌then◌else◌}
use Rattle.std.specs.Option.{is_some}
use Rattle.serde_json.specs.Data.{Data}
use Rattle.serde_json.specs.Find.{get}
use Rattle.vk_spec.specs.Reading.{◌>>=◌, or_fault}
use Rattle.vk_base.specs.declared.names.NameFault.{NameFault}
use Rattle.vk_base.specs.declared.names.NameFault.TheVariants as the
use Rattle.vk_base.specs.Names.{IsName, IsFeatureName, NameRule, port_rule, named, name_fault, reads_name, reads_feature}
use Rattle.vk_base.specs.PathReading.{path_of}
use Rattle.vk_base.proofs.NameLemmas.{rule_from_no_fault}
use Rattle.vk_base.proofs.FeatureLemmas.{feature-holds, feature-same}
use Rattle.vk_version.specs.declared.faults.VersionFault.{VersionFault}
use Rattle.vk_version.specs.declared.faults.VersionFault.TheVariants as version
use Rattle.vk_version.specs.Schemes.{Scheme, relaxed, semver, date, string}
use Rattle.vk_version.specs.Readings.{reads_ask, reads_version}
use Rattle.vk_expr.specs.declared.faults.ExprFault.{ExprFault}
use Rattle.vk_expr.specs.declared.faults.ExprFault.TheVariants as expression
use Rattle.vk_expr.specs.Reading.{reading_of}
use Rattle.vk_json.specs.declared.faults.Why.{Why}
use Rattle.vk_json.specs.declared.faults.Why.TheVariants as why
use Rattle.vk_json.specs.Places.{here, at_member}
use Rattle.vk_json.specs.Readings.{text_at, number_at}
use Rattle.vk_json.proofs.TellingLemmas.{Says, Reads, Anything, says_then, or_says, told_here, told_at, text_says, number_says, wanted_says, optional_or_says, optional_there}
use Rattle.vk_fields.specs.Wording.{name_word, path_word, version_word, expression_word}
use Rattle.vk_fields.specs.Saying.{said_here}
use Rattle.vk_fields.specs.Texts.{WrittenAsk, by_rule, port_name_at, feature_name_at, path_at, expression_at}
use Rattle.vk_fields.specs.Texts.{ask_at, reads_plain, plain_at, reads_written, written_at}
use Rattle.vk_fields.specs.Versions.{key_of, scheme_in, scheme_by, scheme_needed, after_found, next_scheme}
use Rattle.vk_fields.specs.Versions.{port_version_at, version_text_at, version_under, version_if, version_at}
use Rattle.vk_fields.specs.Versions.{version_needed_at, ask_under, with_port_beside, written_ask_under}
use Rattle.vk_spec.specs.Versions.{Ask}
use Rattle.vk_fields.proofs.Schemes.{by_is_in}

-- ---- no rule's fault is told as a missing member

pub name_there : (fault : NameFault) → name_word fault ≢ why.Missing
name_there (the.Bad at) e = (cc)
name_there the.Reserved e = (cc)

version_there : (fault : VersionFault) → version_word fault ≢ why.Missing
version_there version.Shape e = (cc)
version_there version.Number e = (cc)
version_there version.Day e = (cc)

expression_there : (fault : ExprFault) → expression_word fault ≢ why.Missing
expression_there (expression.Unexpected at) e = (cc)
expression_there (expression.Mixed at) e = (cc)
expression_there (expression.Open at) e = (cc)
expression_there expression.Deep e = (cc)

-- ---- texts

pub said_says : {A F : Type 0} (word : F → Why) (P : A → Type 0) (d : Data) (said : Result A F) → ((fault : F) → word fault ≢ why.Missing) → ((x : A) → said ≡ Ok x → P x) → Says P d (said_here word said)
said_says word P d (Ok x) there keeps = keeps x refl
said_says word P d (Err fault) there keeps = told_here d (word fault) (there fault)

by_rule_says : {A F : Type 0} (word : F → Why) (rule : List ℕ → Result A F) (P : A → Type 0) → ((fault : F) → word fault ≢ why.Missing) → ((text : List ℕ) (x : A) → rule text ≡ Ok x → P x) → Reads P (by_rule word rule)
by_rule_says word rule P there keeps d =
    says_then Anything P d (text_at d) (λ text. said_here word (rule text)) (text_says d) (λ text any. said_says word P d (rule text) there (keeps text))

named_keeps : (rule : NameRule) (text name : List ℕ) (fault : Option ℕ) → name_fault rule text ≡ fault → named text fault ≡ Ok name → IsName rule name
named_keeps rule text name None none e = let same : text ≡ name = cc in subst (IsName rule) same (rule_from_no_fault rule text none)
named_keeps rule text name (Some at) fault e = (cc)

pub port_name_says : Reads (IsName port_rule) port_name_at
port_name_says = by_rule_says name_word (reads_name port_rule) (IsName port_rule) name_there (λ text name e. named_keeps port_rule text name (name_fault port_rule text) refl e)

-- a text that reads as a feature's name is that name
pub feature_keeps : (text name : List ℕ) → reads_feature text ≡ Ok name → IsFeatureName name
feature_keeps text name e = subst IsFeatureName (sym (feature-same text name e)) (feature-holds text name e)

pub feature_name_says : Reads IsFeatureName feature_name_at
feature_name_says = by_rule_says name_word reads_feature IsFeatureName name_there feature_keeps

pub path_says : Reads Anything path_at
path_says = by_rule_says path_word path_of Anything (λ wrong e. (cc)) (λ text path e. tt)

pub expression_says : Reads Anything expression_at
expression_says = by_rule_says expression_word reading_of Anything expression_there (λ text tree e. tt)

pub ask_says : Reads Anything ask_at
ask_says = by_rule_says version_word reads_ask Anything version_there (λ text ask e. tt)

plain_says : Reads Anything plain_at
plain_says = by_rule_says version_word reads_plain Anything version_there (λ text plain e. tt)

written_says : Reads Anything written_at
written_says = by_rule_says version_word reads_written Anything version_there (λ text ask e. tt)

version_text_says : (scheme : Scheme) → Reads Anything (version_text_at scheme)
version_text_says scheme = by_rule_says version_word (λ text. reads_version scheme text 0) Anything version_there (λ text v e. tt)

-- ---- versions

module _ (d : Data) where
  found_says : (found : Option Scheme) (next : Scheme) (member : Option Data) → get (key_of next) d ≡ member → IsSome member → Says Anything d (after_found found next)
  found_says None next member e there = tt
  found_says (Some found) next (Some v) e there = told_at (key_of next) d v why.TwoVersions e (λ same. (cc))
  found_says (Some found) next None e there = let no : false ≡ true = there in (cc)

  abbrev there : Scheme → Bool
  there scheme = is_some (get (key_of scheme) d)

  next_by : (found : Option Scheme) (next : Scheme) (b : Bool) → there next ≡ b → Says Anything d (next_scheme there found next)
  next_by found next true is = rw is (found_says found next (get (key_of next) d) refl is)
  next_by found next false is = rw is tt

  next_says : (found : Option Scheme) (next : Scheme) → Says Anything d (next_scheme there found next)
  next_says found next = next_by found next (there next) refl

  by_says : Says Anything d (scheme_by there)
  unfolding scheme_by
  by_says =
      says_then Anything Anything d (next_scheme there None relaxed) (λ first. next_scheme there first semver >>= λ second. next_scheme there second date >>= λ third. next_scheme there third string) (next_says None relaxed) (λ first any.
      says_then Anything Anything d (next_scheme there first semver) (λ second. next_scheme there second date >>= λ third. next_scheme there third string) (next_says first semver) (λ second any.
      says_then Anything Anything d (next_scheme there second date) (λ third. next_scheme there third string) (next_says second date) (λ third any. next_says third string)))

  pub scheme_says : Says Anything d (scheme_in d)
  scheme_says = subst (λ r. Says Anything d r) (by_is_in there d (λ scheme. refl)) by_says

  port_says : Says Anything d (port_version_at d)
  port_says = optional_or_says Anything number_at number_says (codes "port-version") d 0 tt

  under_says : (scheme : Scheme) → Says Anything d (version_under scheme d)
  unfolding version_under
  under_says scheme =
      says_then Anything Anything d _ _ (wanted_says Anything (version_text_at scheme) (version_text_says scheme) (key_of scheme) d) (λ version any.
      says_then Anything Anything d _ _ port_says (λ port any. tt))

  if_says : (scheme : Option Scheme) → Says Anything d (version_if scheme d)
  if_says None = says_then Anything Anything d (port_version_at d) (λ port. Ok None) port_says (λ port any. tt)
  if_says (Some scheme) = says_then Anything Anything d (version_under scheme d) (λ version. Ok (Some version)) (under_says scheme) (λ version any. tt)

  pub version_says : Says Anything d (version_at d)
  unfolding version_at
  version_says = says_then Anything Anything d (scheme_in d) (λ scheme. version_if scheme d) scheme_says (λ scheme any. if_says scheme)

  pub scheme_needed_says : Says Anything d (scheme_needed d)
  scheme_needed_says = says_then Anything Anything d (scheme_in d) (or_fault (here why.NoVersion)) scheme_says (λ found any. or_says d why.NoVersion found (λ e. (cc)))

  pub version_needed_says : Says Anything d (version_needed_at d)
  unfolding version_needed_at
  version_needed_says = says_then Anything Anything d (scheme_needed d) (λ scheme. version_under scheme d) scheme_needed_says (λ scheme any. under_says scheme)

  pub ask_under_says : (key : List ℕ) → Says Anything d (ask_under key d)
  unfolding ask_under
  ask_under_says key =
      says_then Anything Anything d _ _ (wanted_says Anything plain_at plain_says key d) (λ text any.
      says_then Anything Anything d _ _ port_says (λ port any. tt))

  -- a port-version that stands in both places stands beside the text
  twice_by : (written : WrittenAsk) (port : ℕ) (member : Option Data) → get (codes "port-version") d ≡ member → IsSome member → Says Anything d (with_port_beside written (Some port))
  twice_by written port None e there = let no : false ≡ true = there in (cc)
  twice_by written port (Some v) e there = twice written.numbered
    where
      twice : (numbered : Bool) → Says {A = Ask} Anything d (if numbered then Err (at_member (codes "port-version") why.Twice) else Ok (record { text = written.ask.text; port = port }))
      twice true = told_at (codes "port-version") d v why.Twice e (λ same. (cc))
      twice false = tt

  beside_says : (written : WrittenAsk) (port : Option ℕ) → IfSome port (λ n. IsSome (get (codes "port-version") d)) → Says Anything d (with_port_beside written port)
  beside_says written None there = tt
  beside_says written (Some port) there = twice_by written port (get (codes "port-version") d) refl there

  pub written_ask_says : (key : List ℕ) → Says Anything d (written_ask_under key d)
  unfolding written_ask_under
  written_ask_says key =
      says_then Anything Anything d _ _ (wanted_says Anything written_at written_says key d) (λ written any.
      says_then (λ port. IfSome port (λ n. IsSome (get (codes "port-version") d))) Anything d _ _ (optional_there Anything number_at number_says (codes "port-version") d) (λ port there. beside_says written port there))
