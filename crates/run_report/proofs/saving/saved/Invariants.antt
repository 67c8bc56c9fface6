use Rattle.std.proofs.Common.{◌≡◌, ◌++◌, drop}
use Rattle.pcap_frames.specs.Capture.{packets_text, StartsWith}
use Rattle.pcap_frames.specs.declared.order.Order.TheVariants.{LowFirst}
use Rattle.run_report.specs.Saved.{all_packets, capture_of}
use Rattle.run_report.proofs.saving.saved.Given as goal

abbrev pub invariant-loop-number : goal.invariant-loop-number
invariant-loop-number l = record {
  rest : l.into ++ packets_text LowFirst (all_packets l.number (drop l.number l.frames)) ≡ l.fn.into ++ capture_of l.frames;
  more : StartsWith l.fn.into l.into;
}
