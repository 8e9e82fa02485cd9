use Rattle.std.proofs.Common.{◌∙◌, sym}
use Rattle.app_edit.proofs.OtherBytes.{nothing-done, nothing-set}
use Rattle.app_edit.proofs.laws.no_bytes_change_nothing.Goals as goal

pub returns : goal.returns
returns c =
    let xs = c.args.frame.now in
    let done = nothing-done c.args.offload xs c.args.at in
    record {
      frame = c.set_bytes.ensures.bytes ∙ nothing-set c.of.result c.args.offload xs c.args.at c.of.ensures.value c.of.ensures.holds c.bytes_fit.ensures;
      done = (λ yes. done.0 (sym c.set_bytes.ensures.done ∙ yes), λ place. c.set_bytes.ensures.done ∙ done.1 place);
    }
