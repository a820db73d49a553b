use Rattle.std.proofs.Common.{append_assoc, refl}
use Rattle.vk_triplet.proofs.tables.marks_of.Goals as goal

pub returns : goal.returns
returns c =
    rw (c.in_ok-push_native.ensures, c.in_ok-push_rows.ensures, c.in_ok-push_own.ensures, c.new-names.ensures, c.value_of.ensures, append_assoc) refl
