-- The lines of a service that got no reply.
use Rattle.std.specs.Prelude.{ℕ, List, [], ◌++◌, codes}
use Rattle.segment_plan.specs.declared.service.Service.{Service}
use Rattle.segment_plan.specs.declared.slave.SlaveSpec.{SlaveSpec}
use Rattle.entry_act.specs.declared.words.Task.{Task}
use Rattle.entry_act.specs.Words.{scenario_in, slave_in, what_in}
use Rattle.entry_texts.specs.Replies.{head_text}

-- the words SCENARIO SLAVE WHAT
unfoldable pub words_text : List (List ℕ) → List ℕ
words_text words = scenario_in words ++ (codes " " ++ (slave_in words ++ (codes " " ++ what_in words)))

-- where a write is in doubt: that it is to be read before it is written again
unfoldable pub again_line : List (List ℕ) → List ℕ
again_line words = codes "read it before you write it again: ecmbx get " ++ (words_text words ++ codes "\n")

-- the same where something is written
abbrev pub again_in : List (List ℕ) → Task → List ℕ
again_in words Task.Write = again_line words
again_in words _ = []

-- that no answer came
abbrev pub silence : Task → List ℕ
silence Task.Write = codes "in doubt: no answer in 3 s, and it may have been carried out\n"
silence _ = codes "no answer in 3 s\n"

-- THE LINES of a service that got no answer
unfoldable pub unanswered_lines : List (List ℕ) → Task → SlaveSpec → Service → List ℕ
unanswered_lines words task slave service = head_text slave service ++ (silence task ++ again_in words task)

-- THE LINES of a service where the port failed
unfoldable pub port_fault_lines : List (List ℕ) → Task → SlaveSpec → Service → List ℕ
port_fault_lines words task slave service =
    head_text slave service
    ++ (codes "port fault: does a serving listen on 127.0.0.1, port 34980? ecmbx serve " ++ (scenario_in words ++ (codes " COUNT\n" ++ again_in words task)))
