-- THE ROWS OF PACKETS in a book, by the lives of the slaves.
use Rattle.std.specs.Prelude.{List}
use Rattle.run_promises.specs.of_life_runs.Led.{Leads}
use Rattle.promised_run.specs.Numbers.{packet_frames, rows_at}
use Rattle.gateway_run.specs.of_run_book.declared.book.Book.{Book}
use Rattle.gateway_run.specs.of_run_notes.Packets.{AreNumbered, begun_in}

-- OF EACH SLAVE just the packets that came into hand over its life stand in its row of the book, in order, each once: numbered from 0 on, and each with the frame
-- before which it came into hand
abbrev pub AllHavePackets : List Leads → Book → Type 0
AllHavePackets leads book = AreNumbered (λ k. packet_frames (rows_at leads k)) (begun_in book.slaves)
