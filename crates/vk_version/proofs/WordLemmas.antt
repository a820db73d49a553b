-- The words of classes differ.
use Rattle.std.proofs.Common.{◌≡◌, ap, arith, refl}
use Rattle.std.specs.Prelude.{slice_index}
use Rattle.vk_spec.specs.Versions.{Class}
use Rattle.vk_spec.specs.Versions as plain
use Rattle.vk_version.specs.ClassWords.{class_word}

pub words_differ : (c d : Class) → class_word c ≡ class_word d → c ≡ d
words_differ plain.dot plain.dot e = refl
words_differ plain.date plain.date e = refl
words_differ plain.text plain.text e = refl
words_differ plain.dot plain.date e =
    let clash : 111 ≡ 97 = ap (λ word. slice_index word 1) e in absurd (omega (arith, clash))
words_differ plain.dot plain.text e =
    let clash : 100 ≡ 116 = ap (λ word. slice_index word 0) e in absurd (omega (arith, clash))
words_differ plain.date plain.dot e =
    let clash : 97 ≡ 111 = ap (λ word. slice_index word 1) e in absurd (omega (arith, clash))
words_differ plain.date plain.text e =
    let clash : 100 ≡ 116 = ap (λ word. slice_index word 0) e in absurd (omega (arith, clash))
words_differ plain.text plain.dot e =
    let clash : 116 ≡ 100 = ap (λ word. slice_index word 0) e in absurd (omega (arith, clash))
words_differ plain.text plain.date e =
    let clash : 116 ≡ 100 = ap (λ word. slice_index word 0) e in absurd (omega (arith, clash))
