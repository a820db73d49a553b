-- The replies of a tree's calls, as the code has them.
use Rattle.std.specs.Prelude.{◌≡◌, ℕ, List, Result, Ok, Err}
use Rattle.vk_spec.specs.Standing.{Entry}
use Rattle.vk_spec.specs.Calls as calls
use Rattle.vk_spec.specs.Calls.{Refusal}
use Rattle.vk_base.specs.declared.stops.Stop.{Stop}
use Rattle.vk_base.specs.declared.stops.Stop.TheVariants as stop
use Rattle.vk_base.specs.declared.stops.Outage.{Outage}
use Rattle.vk_base.specs.declared.stops.Outage.TheVariants as outage
use Rattle.vk_tree.specs.Answers.{kind_view, read_refusal, list_refusal, move_refusal, remove_refusal, entries_of}
use Rattle.vk_tree.specs.declared.trees.Kind.{Kind}
use Rattle.vk_tree.specs.declared.trees.Listed.{Listed}
use Rattle.vk_tree.specs.declared.trees.ListFault.{ListFault}
use Rattle.vk_tree.specs.declared.trees.MoveFault.{MoveFault}
use Rattle.vk_tree.specs.declared.trees.ReadFault.{ReadFault}
use Rattle.vk_tree.specs.declared.trees.RemoveFault.{RemoveFault}

abbrev pub split : {A F : Type 0} → Result A (Stop F) → Result (Result A F) Outage
split (Ok x) = Ok (Ok x)
split (Err (stop.Fault fault)) = Ok (Err fault)
split (Err stop.Failed) = Err outage.Failed
split (Err (stop.Memory m)) = Err (outage.Memory m)

-- the reply is this one
abbrev pub reply_by : {A B F : Type 0} → (A → B) → (F → Refusal) → Result A F → Result B Refusal
reply_by view refusal (Ok x) = Ok (view x)
reply_by view refusal (Err fault) = Err (refusal fault)

abbrev pub KindSays : Result calls.Kind Refusal → Kind → Type 0
KindSays reply kind = reply ≡ Ok (kind_view kind)

abbrev pub ReadSays : Result (List ℕ) Refusal → Result (List ℕ) ReadFault → Type 0
ReadSays reply r = reply ≡ reply_by (λ bytes. bytes) read_refusal r

abbrev pub ListSays : Result (List Entry) Refusal → Result (List Listed) ListFault → Type 0
ListSays reply r = reply ≡ reply_by entries_of list_refusal r

abbrev pub DoneSays : Result (Unit {0}) Refusal → Unit {0} → Type 0
DoneSays reply u = reply ≡ Ok u

abbrev pub RemoveSays : Result (Unit {0}) Refusal → Result (Unit {0}) RemoveFault → Type 0
RemoveSays reply r = reply ≡ reply_by (λ u. u) remove_refusal r

abbrev pub MoveSays : Result (Unit {0}) Refusal → Result (Unit {0}) MoveFault → Type 0
MoveSays reply r = reply ≡ reply_by (λ u. u) move_refusal r
