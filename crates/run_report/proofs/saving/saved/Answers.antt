use Rattle.std.proofs.Common.{◌+◌, ◌∷◌, ◌++◌, drop, ap, sym, ◌∙◌, append_assoc}
use Rattle.std.proofs.lemmas.List.{drop_more}
use Rattle.pcap_frames.specs.Capture.{packets_text}
use Rattle.pcap_frames.specs.declared.order.Order.TheVariants.{LowFirst}
use Rattle.run_report.specs.Saved.{packets_of, all_packets, capture_of}
use Rattle.run_report.proofs.Saves.{text_of_both, joined}
use Rattle.run_report.proofs.saving.saved.Goals as goal

pub loop-number-preserved : goal.loop-number-preserved
loop-number-preserved c =
    let at = c.loop-number.number in
    let frames = c.args.frames.now in
    let f = c.index-frames-number.result in
    let rest = drop (at + 1) frames in
    let piece = packets_text LowFirst (packets_of at f) in
    let left = packets_text LowFirst (all_packets (at + 1) rest) in
    let split = drop_more frames at f c.loop-number-test.true ∙ ap (λ o. o ∷ rest) (sym c.index-frames-number.is) in
    let more = c.loop-number.invariant.more in
    record {
      rest = joined c.loop-number.into c.save_frame.new.into piece left (c.args.into.now ++ capture_of frames)
          (ap (λ fs. packets_text LowFirst (all_packets at fs)) split ∙ text_of_both LowFirst (packets_of at f) (all_packets (at + 1) rest)) c.in_ok-save_frame.ensures.ok c.loop-number.invariant.rest;
      more = (more.0 ++ piece, c.in_ok-save_frame.ensures.ok ∙ ap (λ l. l ++ piece) more.1 ∙ append_assoc c.args.into.now more.0 piece);
    }
