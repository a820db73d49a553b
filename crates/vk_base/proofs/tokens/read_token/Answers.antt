use Rattle.std.proofs.Common.{◌≡◌, sym, ◌∙◌, ap, true, false}
use Rattle.percent_encoding.specs.Percent.{percent_decode}
use Rattle.vk_base.proofs.TokenLemmas.{token_back}
use Rattle.vk_base.proofs.tokens.read_token.Goals as goal

pub returns : goal.returns
returns c bytes small e =
    let decoded : percent_decode c.args.text.now ≡ bytes = ap percent_decode e ∙ token_back bytes small in
    let again : c.in_ok-again.again ≡ c.args.text.now =
    rw (c.in_ok-again.ensures, c.as_slice.ensures.value, c.in_ok-append_to.ensures.ok, c.new-bytes.ensures.items, c.percent_decode.ensures.bytes, c.as_bytes.ensures.value, decoded) (sym e) in
    let same : c.is.result ≡ true = c.is.ensures.1 again in
    let no : true ≡ false = sym same ∙ c.if-is.false in (cc)
