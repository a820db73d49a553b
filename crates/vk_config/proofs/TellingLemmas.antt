-- Where the faults of a configuration stand.
use Rattle.std.proofs.Common.{◌≡◌, ◌&&◌, ◌==◌, Bool, true, false, ℕ, List, [], length}
use Rattle.std.proofs.Common.{ap, sym, ◌∙◌}
use Rattle.std.specs.Prelude.{Option, Some, None, IfSome, Ok, Err, codes, if◌then◌else◌}
use Rattle.std.specs.List.{All, list_any, before_first, after_first}
use Rattle.std.specs.Option.{is_some}
use Rattle.serde_json.specs.Data.{Data}
use Rattle.serde_json.specs.Find.{as_null}
use Rattle.vk_spec.specs.Reading.{◌>>=◌}
use Rattle.vk_base.specs.Names.{reads_name, port_rule}
use Rattle.vk_json.specs.Documents.{json_of}
use Rattle.vk_json.specs.Places.{here}
use Rattle.vk_json.specs.Readings.{Reading, text_at, each_item, optional}
use Rattle.vk_json.specs.Standing.{StandsIn}
use Rattle.vk_json.specs.declared.faults.FileFault.{FileFault}
use Rattle.vk_json.specs.declared.faults.Why.TheVariants as why
use Rattle.vk_json.proofs.TellingLemmas.{Says, Reads, Anything, says_then, says_weaker, or_says}
use Rattle.vk_json.proofs.TellingLemmas.{told_here, text_says, object_says, wanted_says}
use Rattle.vk_json.proofs.TellingLemmas.{optional_says, optional_or_says, each_item_says}
use Rattle.vk_json.proofs.TellingLemmas.{told_stands}
use Rattle.vk_fields.specs.Texts.{path_at}
use Rattle.vk_fields.proofs.TellingLemmas.{said_says, path_says}
use Rattle.vk_config.specs.Configs.{Pattern, starting, Source, filesystem, git, builtin, artifact}
use Rattle.vk_config.specs.Configs.{Config, Embedded, two}
use Rattle.vk_config.specs.Patterns.{is_star, is_beginning, pattern_word, starred, named}
use Rattle.vk_config.specs.Patterns.{pattern_of, pattern_at}
use Rattle.vk_config.specs.Registries.{Kind, in_folder, in_git, built_in, of_artifacts, kind_of}
use Rattle.vk_config.specs.Registries.{kind_at}
use Rattle.vk_config.specs.Registries.{folder_in, source_by, source_at, packages_by, registry_at}
use Rattle.vk_config.specs.Readings.{unless_null, paths_under, config_at}
use Rattle.vk_config.specs.Readings.{config_of}
use Rattle.vk_config.specs.Embedding.{first_key, second_key, has_both, either, only_one}
use Rattle.vk_config.specs.Embedding.{embedded_at, embedded_of}

-- ---- patterns

starred_says : (d : Data) (text rest : List ℕ) → Says Anything d (starred text rest)
starred_says d text rest = by ((length rest == 0) && is_beginning text)
  where
    by : (fits : Bool)
        → Says {A = Pattern} Anything d
        (if fits then Ok (starting text) else Err (here why.Pattern))
    by true = tt
    by false = told_here d why.Pattern (λ e. (cc))

named_says : (d : Data) (text : List ℕ) → Says Anything d (named text)
unfolding named
named_says d text =
    says_then Anything Anything d _ _
    (said_says pattern_word Anything d (reads_name port_rule text) (λ wrong e. (cc)) (λ name e. tt))
    (λ name any. tt)

of_says : (d : Data) (text : List ℕ) → Says Anything d (pattern_of text)
of_says d text = by (list_any is_star text)
  where
    by : (star : Bool)
        → Says Anything d (if star then starred (before_first is_star text)
        (after_first is_star text) else named text)
    by true = starred_says d (before_first is_star text) (after_first is_star text)
    by false = named_says d text

pattern_says : Reads Anything pattern_at
pattern_says d = says_then Anything Anything d _ _ (text_says d) (λ text any. of_says d text)

-- ---- registries

kind_says : Reads Anything kind_at
kind_says d =
    says_then Anything Anything d _ _ (text_says d)
    (λ word any. or_says d why.Kind (kind_of word) (λ e. (cc)))

folder_says : Reads Anything folder_in
unfolding folder_in
folder_says d =
    says_then Anything Anything d _ _ (wanted_says Anything path_at path_says (codes "path") d)
    (λ path any.
    says_then Anything Anything d _ _
    (optional_or_says Anything text_at text_says (codes "baseline") d (codes "default") tt)
    (λ baseline any. tt))

by_kind_says : (kind : Kind) → Reads Anything (source_by kind)
by_kind_says in_folder d = folder_says d
by_kind_says in_git d = tt
by_kind_says built_in d = tt
by_kind_says of_artifacts d = tt

source_says : Reads Anything source_at
unfolding source_at
source_says d =
    says_then Anything Anything d _ _ (object_says d) (λ object any.
    says_then Anything Anything d _ _ (wanted_says Anything kind_at kind_says (codes "kind") d)
    (λ kind any. by_kind_says kind d))

-- whatever a list's items are
items_says : {A : Type 0} (f : Reading A) → Reads Anything f → Reads Anything (each_item f)
items_says f reads d =
    says_weaker (All Anything) Anything d (each_item f d) (each_item_says Anything f reads d)
    (λ xs all. tt)

patterns_says : Reads Anything (λ d. packages_by git d)
patterns_says d =
    wanted_says Anything (each_item pattern_at) (items_says pattern_at pattern_says)
    (codes "packages") d

packages_says : (source : Source) → Reads Anything (packages_by source)
packages_says artifact d = tt
packages_says (filesystem path baseline) d = patterns_says d
packages_says git d = patterns_says d
packages_says builtin d = patterns_says d

registry_says : Reads Anything registry_at
unfolding registry_at
registry_says d =
    says_then Anything Anything d _ _ (source_says d) (λ source any.
    says_then Anything Anything d _ _ (packages_says source d) (λ packages any. tt))

-- ---- configurations

null_says : Reads Anything (unless_null source_at)
null_says d = by (is_some (as_null d))
  where
    by : (null : Bool)
        → Says {A = Option Source} Anything d
        (if null then Ok None else (source_at d >>= λ x. Ok (Some x)))
    by true = tt
    by false =
        says_then Anything Anything d (source_at d) (λ x. Ok (Some x)) (source_says d) (λ x any. tt)

paths_says : (key : List ℕ) → Reads Anything (paths_under key)
paths_says key d =
    optional_or_says Anything (each_item path_at) (items_says path_at path_says) key d [] tt

config_says : Reads Anything config_at
unfolding config_at
config_says d =
    says_then Anything Anything d _ _ (object_says d) (λ object any.
    says_then Anything Anything d _ _
    (optional_or_says Anything (unless_null source_at) null_says
    (codes "default-registry") d None tt) (λ default any.
    says_then Anything Anything d _ _ (paths_says (codes "overlay-ports") d) (λ ports any.
    says_then Anything Anything d _ _ (paths_says (codes "overlay-triplets") d) (λ triplets any.
    says_then Anything Anything d _ _
    (optional_or_says Anything (each_item registry_at) (items_says registry_at registry_says)
    (codes "registries") d [] tt) (λ registries any. tt)))))

pub config_stands : (bytes : List ℕ) (d : Data) (fault : FileFault) → json_of bytes ≡ Ok d
    → config_of bytes ≡ Err fault → StandsIn d fault
config_stands bytes d fault is told =
    told_stands Anything d (config_at d) fault (config_says d)
    (sym (ap (λ r. r >>= config_at) is) ∙ told)

-- ---- in a root manifest

under_says : (key : List ℕ) (d : Data) → Says (λ o. IfSome o Anything) d (optional config_at key d)
under_says key d = optional_says Anything config_at config_says key d

-- whatever a configuration is that may be there
abbrev IsAny : Option Config → Type 0
IsAny found = IfSome found (λ config. Anything config)

only_says : Reads Anything only_one
unfolding only_one
only_says d =
    says_then IsAny Anything d (optional config_at first_key d)
    (λ first. optional config_at second_key d >>= λ second. Ok (either first second))
    (under_says first_key d)
    (λ first any.
    says_then IsAny Anything d (optional config_at second_key d)
    (λ second. Ok (either first second)) (under_says second_key d) (λ second any. tt))

embedded_says : Reads Anything embedded_at
unfolding embedded_at
embedded_says d = by (has_both d)
  where
    by : (both : Bool) → Says {A = Embedded} Anything d (if both then Ok two else only_one d)
    by true = tt
    by false = only_says d

pub embedded_stands : (bytes : List ℕ) (d : Data) (fault : FileFault) → json_of bytes ≡ Ok d
    → embedded_of bytes ≡ Err fault → StandsIn d fault
embedded_stands bytes d fault is told =
    told_stands Anything d (embedded_at d) fault (embedded_says d)
    (sym (ap (λ r. r >>= embedded_at) is) ∙ told)
