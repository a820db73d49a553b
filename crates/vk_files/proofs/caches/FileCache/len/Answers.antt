use Rattle.std.proofs.Common.{◌∙◌, sym}
use Rattle.std.proofs.lemmas.List.{length-map}
use Rattle.vk_files.specs.Views.{seen_view}
use Rattle.vk_files.proofs.caches.FileCache.len.Goals as goal

pub returns : goal.returns
returns c = c.len.ensures.len ∙ sym (length-map c.args.self.now.found.entries (λ e. (e.0, seen_view e.1)))
