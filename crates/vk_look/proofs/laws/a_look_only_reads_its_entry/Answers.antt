use Rattle.vk_look.proofs.CallLemmas.{look_reads, look_below, look_first}
use Rattle.vk_look.proofs.LimitLemmas.{look_by_bytes}
use Rattle.vk_look.proofs.OnceLemmas.{look_anew}
use Rattle.vk_look.proofs.laws.a_look_only_reads_its_entry.Goals as goal

pub returns-clause-only : goal.returns-clause-only
returns-clause-only c = look_reads

pub returns-clause-below : goal.returns-clause-below
returns-clause-below c = look_below

pub returns-clause-once : goal.returns-clause-once
returns-clause-once c = look_anew

pub returns-clause-limit : goal.returns-clause-limit
returns-clause-limit c = look_by_bytes

pub returns-clause-first : goal.returns-clause-first
returns-clause-first c = look_first
