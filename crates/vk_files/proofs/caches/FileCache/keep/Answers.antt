use Rattle.vk_files.specs.Views.{same_path, seen_view}
use Rattle.vk_files.proofs.NotedLemmas.{kept_last}
use Rattle.vk_files.proofs.caches.FileCache.keep.Goals as goal

pub returns : goal.returns
returns c = kept_last seen_view same_path c.args.self.now.found c.args.path c.args.found _ c.insert.result (c.insert.ensures.succeeds c.requires.room) c.insert.ensures.entries c.requires.new
