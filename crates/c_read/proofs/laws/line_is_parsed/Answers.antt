use Rattle.std.proofs.Common.{SFits, ◌≡◌, ◌∙◌, None, Some, ap, length, rules, subst, sym, w64}
use Rattle.std.proofs.lemmas.Int.{to_z-of_z}
use Rattle.c_read.proofs.ParsedLine.{tcp-printed, udp-printed}
use Rattle.c_read.specs.FrameFields.{fields_of}
use Rattle.c_read.specs.Summary.{frame_line, tcp_line, udp_line, with_verdicts}
use Rattle.c_structs.specs.Written.{Prints}
use Rattle.c_structs.specs.declared.types.FrameFields.{FrameFields}
use Rattle.c_read.proofs.laws.line_is_parsed.Goals as goal

pub returns : goal.returns
returns c =
    let frame = c.args.frame.now in
    let f = c.read_frame.new.fields in
    let old = c.args.out.now in
    let new = c.print_frame.new.out in
    let read : f ≡ fields_of frame = c.read_frame.ensures.value in
    let line = ap (λ (g : FrameFields). frame_line g f.icmp.msg_type f.icmp.code) read in
    let fits : SFits w64 c.print_frame.result = search rules in
    let r = c.print_frame.result in
    record {
      udp = λ v ip ports payload reads.
          let is = line ∙ udp-printed frame v ip ports payload f.icmp.msg_type f.icmp.code reads ∙ sym (ap (with_verdicts (udp_line ip ports (length payload))) read) in
          subst (λ a. Prints (Some (with_verdicts (udp_line ip ports (length payload)) f)) None old new a) (sym (to_z-of_z w64 r fits)) (subst (λ l. Prints (Some l) None old new r) is c.print_frame.ensures);
      tcp = λ v ip header payload reads.
          let is = line ∙ tcp-printed frame v ip header payload f.icmp.msg_type f.icmp.code reads
          ∙ sym (ap (λ (g : FrameFields). with_verdicts (tcp_line ip header g.tcp (length payload)) g) read) in
          subst (λ a. Prints (Some (with_verdicts (tcp_line ip header f.tcp (length payload)) f)) None old new a) (sym (to_z-of_z w64 r fits)) (subst (λ l. Prints (Some l) None old new r) is c.print_frame.ensures);
    }
