use Rattle.std.proofs.Common.{◌≡◌, ◌∙◌, drop, rules}
use Rattle.std.proofs.lemmas.List.{take_rest}
use Rattle.std.proofs.lemmas.Result.{IfErr-weaker, IfOk-weaker}
use Rattle.app_nat.proofs.Faults.{by-type, named-type, other-type, unread}
use Rattle.ip_wire.specs.Ethernet.{frame_bytes}
use Rattle.ip_wire.specs.declared.EthernetProtocol.TheVariants as ethertype
use Rattle.app_nat.proofs.packet.parse_whole.Goals as goal

pub returns-in_default-clause-rejected : goal.returns-in_default-clause-rejected
returns-in_default-clause-rejected c =
    let view : frame_bytes c.new_unchecked.result ≡ c.args.frame.now = search rules in
    unread c.args.frame.now c.parse.result c.in_default.field-0 (rw view at c.parse.ensures.value) (search rules)

pub returns-in-Ipv4-clause-whole : goal.returns-in-Ipv4-clause-whole
returns-in-Ipv4-clause-whole c =
    let view : frame_bytes c.new_unchecked.result ≡ c.args.frame.now = search rules in
    let reads = rw view at c.parse.ensures.reads in
    IfOk-weaker c.parse_unfragmented.result _ _
    (λ parts h. record {
      link = c.in-Ok.link;
      is = record { reads = (reads c.in-Ok.link).0 c.in-Ok.is; names = search rules };
      reads = h.0;
      inner = h.1;
    })
    (rw (take_rest c.args.frame.now 14) at c.parse_unfragmented.ensures.whole)

pub returns-in-Ipv4-clause-rejected : goal.returns-in-Ipv4-clause-rejected
returns-in-Ipv4-clause-rejected c =
    let view : frame_bytes c.new_unchecked.result ≡ c.args.frame.now = search rules in
    let named = named-type c.args.frame.now c.parse.result c.in-Ok.link ethertype.Ipv4 (rw view at c.parse.ensures.value) c.in-Ok.is (search rules) in
    IfErr-weaker c.parse_unfragmented.result _ _ (λ reason why. named ∙ why) (rw (take_rest c.args.frame.now 14) at c.parse_unfragmented.ensures.rejected)

pub returns-in_default-ethertype : goal.returns-in_default-ethertype
returns-in_default-ethertype c =
    let view : frame_bytes c.new_unchecked.result ≡ c.args.frame.now = search rules in
    record {
      whole = tt;
      rejected = by-type c.args.frame.now c.parse.result c.in-Ok.link (rw view at c.parse.ensures.value) c.in-Ok.is
          ∙ other-type c.in-Ok.link.ethertype (drop 14 c.args.frame.now) (search rules);
    }
