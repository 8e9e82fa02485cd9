use Rattle.std.proofs.Common.{SFits, rules, w32}
use Rattle.std.proofs.lemmas.Int.{to_z-of_z}
use Rattle.promises_c.proofs.LinkTypes.{both_reject, same_type}
use Rattle.promises_c.proofs.links.link_of_packet.Goals as goal

pub returns-clause-read : goal.returns-clause-read
returns-clause-read c =
    let a = c.lk_read_link.result in
    let fits : SFits w32 a = search rules in
    rw (to_z-of_z w32 a fits) (same_type c.args.link_type c.args.bytes.now c.args.link.now c.lk_read_link.new.link c.lk_read_linktype.new.frame a
    c.lk_read_link.ensures.stored c.lk_read_link.ensures.returned c.lk_read_linktype.ensures.fields)

pub returns-clause-rejected : goal.returns-clause-rejected
returns-clause-rejected c =
    let a = c.lk_read_link.result in
    let b = c.lk_read_linktype.result in
    let fits : SFits w32 a = search rules in
    let also : SFits w32 b = search rules in
    rw (to_z-of_z w32 a fits, to_z-of_z w32 b also) (both_reject c.args.link_type c.args.bytes.now c.lk_read_linktype.new.frame a b
    c.lk_read_link.ensures.returned c.lk_read_linktype.ensures.fields c.lk_read_linktype.ensures.reason)
