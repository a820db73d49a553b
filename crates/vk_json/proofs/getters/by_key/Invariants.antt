use Rattle.std.proofs.Common.{◌≡◌, drop}
use Rattle.json.specs.Value.{members_view}
use Rattle.serde_json.specs.Data.{no_members}
use Rattle.vk_json.specs.Values.{entries_view, members_data}
use Rattle.vk_json.proofs.getters.by_key.Given as goal

abbrev pub invariant-loop-key : goal.invariant-loop-key
invariant-loop-key l =
    members_data (members_view (drop l.key-index l.object)) (entries_view l.found.entries)
    ≡ members_data (members_view l.object) no_members
