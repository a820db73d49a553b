use Rattle.std.proofs.Common.{◌≡◌, ◌-◌, length, take}
use Rattle.std.specs.Str.{IsUtf8}
use Rattle.vk_base.specs.Parts.{parts_in}
use Rattle.vk_base.proofs.parts.without.Given as goal

abbrev pub invariant-loop : goal.invariant-loop
invariant-loop l = (parts_in l.front ≡ take (length (parts_in l.text) - l.counter) (parts_in l.text)) × IsUtf8 l.front
