use Rattle.vk_expr.proofs.TokenLemmas.{IsAscii-word}
use Rattle.vk_expr.proofs.tokens.sign_of_front.Goals as goal

pub word_text-requires : goal.word_text-requires
word_text-requires c = rw (c.word.ensures) (IsAscii-word c.args.bytes.now)
