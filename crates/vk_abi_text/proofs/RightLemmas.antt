-- What the values that a text is made of keep.
use Rattle.std.proofs.Common.{◌≡◌, ℕ, List}
use Rattle.std.specs.Prelude.{None, Ok}
use Rattle.std.specs.List.{All}
use Rattle.vk_base.specs.Names.{IsName, name_fault, port_rule, reads_feature, word_rule}
use Rattle.vk_base.specs.Tokens.{IsByte}
use Rattle.vk_base.proofs.NameLemmas.{rule_from_no_fault}
use Rattle.vk_base.proofs.FeatureLemmas.{feature-holds}
use Rattle.vk_model.specs.BuilderTexts.{reads_builder_text}
use Rattle.vk_model.specs.declared.builders.Builder.{Builder}
use Rattle.vk_abi_text.specs.Rights.{IsRightBuilder}

pub right_port : (port : List ℕ) → name_fault port_rule port ≡ None → IsName port_rule port
right_port port fine = rule_from_no_fault port_rule port fine

pub right_word : (word : List ℕ) → name_fault word_rule word ≡ None → IsName word_rule word
right_word word fine = rule_from_no_fault word_rule word fine

pub right_feature : (name : List ℕ) → reads_feature name ≡ Ok name → IsName word_rule name
right_feature name reads = (feature-holds name name reads).word

pub right_builder : (b : Builder) → name_fault word_rule b.name ≡ None → reads_builder_text b.text ≡ Ok b.text → All IsByte b.text → IsRightBuilder b
right_builder b fine reads bytes = record { name = right_word b.name fine; text = reads; bytes = bytes }
