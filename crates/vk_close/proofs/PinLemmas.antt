-- The manifests of overlays, by the ends of their paths.
use Rattle.std.proofs.Common.{◌≡◌, ◌-◌, ℕ, zero, suc, Bool, true, false, ◌&&◌, List, [], ◌∷◌, length, drop, get_or, refl, sym, ap, ◌∙◌, arith, true≢false}
use Rattle.std.specs.Prelude.{bytes_eq, None}
use Rattle.std.specs.Cmp.Lexicographic.{pointwise}
use Rattle.std.proofs.Math.Bool.{and-false}
use Rattle.std.proofs.lemmas.Slice.Eq.{bytes_eq-Decides}
use Rattle.std.proofs.lemmas.List.Elements.{All-head}
use Rattle.vk_spec.specs.Paths.{Path, anchor, steps_up}
use Rattle.vk_base.specs.Names.{port_rule, name_fault, is_name_byte, IsName}
use Rattle.vk_base.proofs.NameLemmas.{rule_from_no_fault}

one_fewer : (n : ℕ) → suc (suc (suc n) - 2) ≡ suc (suc (suc n)) - 2
one_fewer n = omega arith

-- what a path ends in is what its parts end in, where the anchor isn't the first of it
end_of_parts : (first : List ℕ) (parts : Path) (folder file : List ℕ) → bytes_eq first folder ≡ false
    → pointwise bytes_eq (drop (length parts - 2) parts) (folder ∷ file ∷ []) ≡ pointwise bytes_eq (drop (length (first ∷ parts) - 2) (first ∷ parts)) (folder ∷ file ∷ [])
end_of_parts first [] folder file other = sym (and-false (bytes_eq first folder))
end_of_parts first (one ∷ []) folder file other = and-false (bytes_eq one folder) ∙ ap (λ b. b && (bytes_eq one file && true)) (sym other)
end_of_parts first (one ∷ two ∷ parts) folder file other = ap (λ n. pointwise bytes_eq (drop n (first ∷ one ∷ two ∷ parts)) (folder ∷ file ∷ [])) (one_fewer (length parts))

-- no name of a port is an anchor
first_byte : (b : ℕ) (text more : List ℕ) → is_name_byte port_rule b ≡ false → IsName port_rule text → bytes_eq (b ∷ more) text ≡ false
first_byte b [] more odd name = refl
first_byte b (c ∷ text) more odd name = by (bytes_eq (b ∷ more) (c ∷ text)) refl
  where
    by : (r : Bool) → bytes_eq (b ∷ more) (c ∷ text) ≡ r → r ≡ false
    by false e = refl
    by true e =
        let same : b ∷ more ≡ c ∷ text = (bytes_eq-Decides (b ∷ more) (c ∷ text)).0 e in
        let first : b ≡ c = ap (λ l. get_or l 0 0) same in
        let right : is_name_byte port_rule c ≡ true = All-head (λ b. is_name_byte port_rule b ≡ true) c text name.bytes in
        absurd (true≢false (sym right ∙ ap (is_name_byte port_rule) (sym first) ∙ odd))

no_anchor : (rooted : Bool) (ups : ℕ) (text : List ℕ) → IsName port_rule text → bytes_eq (anchor rooted ups) text ≡ false
no_anchor true ups text name = first_byte 47 text [] refl name
no_anchor false zero text name = first_byte 46 text [] refl name
no_anchor false (suc zero) text name = first_byte 46 text (46 ∷ []) refl name
no_anchor false (suc (suc n)) text name = first_byte 46 text (46 ∷ 47 ∷ steps_up n) refl name

-- the test of the parts is that of the path
pub by_its_parts : (rooted : Bool) (ups : ℕ) (parts path : Path) (port file : List ℕ) → anchor rooted ups ∷ parts ≡ path → name_fault port_rule port ≡ None
    → pointwise bytes_eq (drop (length parts - 2) parts) (port ∷ file ∷ []) ≡ pointwise bytes_eq (drop (length path - 2) path) (port ∷ file ∷ [])
by_its_parts rooted ups parts path port file is name =
    end_of_parts (anchor rooted ups) parts port file (no_anchor rooted ups port (rule_from_no_fault port_rule port name))
    ∙ ap (λ p. pointwise bytes_eq (drop (length p - 2) p) (port ∷ file ∷ [])) is
