use Rattle.vk_folder.proofs.PieceLemmas.{piece_read}
use Rattle.vk_folder.proofs.pieces.piece_at.Goals as goal

pub returns-clause-reads : goal.returns-clause-reads
returns-clause-reads g c = rw (c.found_in.ensures) (piece_read c.args.path.now c.args.at c.piece.result c.piece.ensures)
