use Rattle.vk_publish.proofs.NameLemmas.{taken_behind, taken_before}
use Rattle.vk_publish.proofs.names.place_behind.Goals as goal

pub returns-in-Some-clause-taken : goal.returns-in-Some-clause-taken
returns-in-Some-clause-taken c = taken_behind c.args.listed.now c.args.name.now c.args.from c.split_at.result.0.now c.split_at.result.1.now c.split_at.ensures.front c.split_at.ensures.back c.place_of.result c.in-Some.place c.place_of.ensures c.in-Some.is

pub returns-in-None-clause-taken : goal.returns-in-None-clause-taken
returns-in-None-clause-taken c = taken_before c.args.listed.now c.args.name.now c.args.from c.split_at.result.0.now c.split_at.result.1.now c.split_at.ensures.front c.split_at.ensures.back c.place_of.result c.place_of-in-None.result _ c.place_of.ensures c.in-None.is c.place_of-in-None.ensures c.map.ensures.variant
