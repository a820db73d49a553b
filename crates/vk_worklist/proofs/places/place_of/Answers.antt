use Rattle.std.proofs.Common.{sym}
use Rattle.std.specs.Map.{keys_of}
use Rattle.vk_worklist.proofs.PlaceLemmas.{placed, seat_found}
use Rattle.vk_worklist.proofs.places.place_of.Goals as goal

pub returns-in-Some-clause-found : goal.returns-in-Some-clause-found
returns-in-Some-clause-found g c = placed c.args.map.now.entries c.args.port.now c.in-Some.field-0-1.now c.in-Some.field-0-2.now c.in-Some.place (sym c.in-Some.ensures.key) c.in-Some.ensures.entry

pub returns-in-Some-clause-seat : goal.returns-in-Some-clause-seat
returns-in-Some-clause-seat g c = seat_found (keys_of c.args.map.now.entries) c.args.port.now c.in-Some.place c.in-Some.ensures.index
