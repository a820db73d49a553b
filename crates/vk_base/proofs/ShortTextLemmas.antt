-- A text that is copied to the front of a room of zeros.
use Rattle.std.proofs.Common.{◌≡◌, ◌++◌, ◌≤◌, ◌∙◌, ℕ, List, length, drop, replicate, length-append, subst, sym, ap, arith}
use Rattle.std.specs.Str.{IsUtf8}
use Rattle.std.proofs.Math.Seq.{take-append_seam}
use Rattle.std.proofs.lemmas.List.{drop-replicate}
use Rattle.vk_base.specs.ShortTexts.{padded, IsShort}

-- zeros behind a text fill its room
pub padded_short : (text : List ℕ) → text ++ drop (length text) (replicate 14 0) ≡ padded text
padded_short text = ap (λ zeros. text ++ zeros) (drop-replicate (length text) 14 0)

pub copied : (text room : List ℕ) → length text ≤ 14 → room ≡ text → IsUtf8 text → IsShort (length text) (room ++ drop (length text) (replicate 14 0))
copied text room short e utf8 =
    let zeros = drop (length text) (replicate 14 0) in
    let front = take-append_seam text zeros in
    subst (λ r. IsShort (length text) (r ++ zeros)) (sym e) (record {
      within = omega (arith, length-append text zeros);
      utf8 = rw front (∣ utf8 ∣₁);
      zeros = padded_short text ∙ ap padded (sym front);
    })
