-- What an index of patterns answers.
use Rattle.std.specs.Prelude.{ℕ, List, Option, bytes_eq}
use Rattle.indexmap.specs.IndexMap.{get_by}
use Rattle.vk_config.specs.FirstPlaces.{PatternPlaces, at_pattern}
use Rattle.vk_config.specs.declared.first_places.FirstPlaces.{FirstPlaces}
use Rattle.vk_config.specs.declared.pattern_indexes.PatternIndex.{PatternIndex}

abbrev pub text_place : FirstPlaces → List ℕ → Option ℕ
text_place places text = get_by (λ key. bytes_eq text key.items) places.inner

abbrev pub index_view : PatternIndex → PatternPlaces
index_view index = at_pattern (text_place index.names) (text_place index.beginnings)
