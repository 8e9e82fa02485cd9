use Rattle.std.proofs.Common.{◌≡◌, ◌∙◌, ap, drop, rules, slice_range, sym, take}
use Rattle.std.proofs.lemmas.List.{drop-drop}
use Rattle.ip_wire.specs.declared.IpAddress.TheVariants.{Ipv4}
use Rattle.app_edit.specs.Edited.{src_of}
use Rattle.app_edit.proofs.replace.src_of.Goals as goal

pub returns-in-Ipv4-clause-value : goal.returns-in-Ipv4-clause-value
returns-in-Ipv4-clause-value c =
    let frame = c.args.frame.now in
    let addr : c.src_addr.result ≡ slice_range (drop 14 frame) 12 16 = search rules in
    ap Ipv4 (addr ∙ ap (take 4) (drop-drop 12 14 frame)) ∙ ap (λ v. src_of v frame) (sym c.in-Ipv4.is)
