use Rattle.std.proofs.Common.{◌-◌, [], ◌∷◌, length, drop, ap, ◌∙◌}
use Rattle.std.specs.Prelude.{bytes_eq, codes}
use Rattle.std.specs.Cmp.Lexicographic.{pointwise}
use Rattle.vk_base.specs.Paths.{is_rooted, ups_of, parts_of}
use Rattle.vk_close.proofs.PinLemmas.{by_its_parts}
use Rattle.vk_close.proofs.pins.is_overlay_file.Goals as goal

pub returns : goal.returns
returns c =
    let path = c.args.path.now in
    let parts = parts_of path in
    c.ends_in.ensures.ends
    ∙ ap (λ t. pointwise bytes_eq (drop (length parts - 2) parts) (t ∷ codes "vcpkg.json" ∷ [])) c.as_str.ensures.text
    ∙ by_its_parts (is_rooted path) (ups_of path) parts path c.args.port.now (codes "vcpkg.json") c.ends_in.ensures.key c.as_str.ensures.name
