use Rattle.std.proofs.Common.{sym, subst}
use Rattle.ip_wire.specs.Filled.{Fills}
use Rattle.app_host.specs.Message.{message_bytes, message_len}
use Rattle.app_host.specs.declared.message.Message.TheVariants.{Ndisc}
use Rattle.app_host.proofs.message.Message.try_emit.Goals as goal

pub returns-in-Icmp : goal.returns-in-Icmp
returns-in-Icmp c =
    subst (λ m. Fills (message_bytes c.args.ip.now m) (message_len m) c.args.out.now c.emit_icmp.new.out c.emit_icmp.result) (sym c.in-Icmp.is) c.emit_icmp.ensures

pub returns-in-Ipv6 : goal.returns-in-Ipv6
returns-in-Ipv6 c =
    subst (λ m. Fills (message_bytes c.args.ip.now m) (message_len m) c.args.out.now c.emit_ndisc.new.out c.emit_ndisc.result) (sym c.in-Ndisc.is)
    (subst (λ v. Fills (message_bytes v (Ndisc c.in-Ndisc.value)) (message_len (Ndisc c.in-Ndisc.value)) c.args.out.now c.emit_ndisc.new.out c.emit_ndisc.result) (sym c.in-Ipv6.is) c.emit_ndisc.ensures)
