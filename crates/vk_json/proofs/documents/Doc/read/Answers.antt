use Rattle.std.proofs.Common.{ap, ◌∙◌, subst}
use Rattle.serde_json.specs.Read.{read}
use Rattle.vk_spec.specs.Reading.{Gives, or_fault}
use Rattle.vk_base.specs.Stops.{fault_in}
use Rattle.vk_json.specs.declared.faults.Why.TheVariants as why
use Rattle.vk_json.specs.DocumentView.{doc_data}
use Rattle.vk_json.specs.Places.{here}
use Rattle.vk_json.proofs.DocumentLemmas.{of_text, of_no_text}
use Rattle.vk_json.proofs.documents.Doc.read.Goals as goal

pub returns-in-Ok : goal.returns-in-Ok
returns-in-Ok c =
    let text = c.in-Ok.ensures.cases in
    let same = ap (λ bytes. or_fault (here why.Json) (read bytes)) (text.0 ∙ c.without_mark.ensures) in
    subst (Gives doc_data fault_in c.read_text.result) (same ∙ of_text c.args.bytes.now (rw c.without_mark.ensures at text.1)) c.read_text.ensures

pub returns-in-Err : goal.returns-in-Err
returns-in-Err c = rw c.wrong.ensures (of_no_text c.args.bytes.now (λ text. c.in-Err.ensures.cases.0 (rw c.without_mark.ensures text)))
