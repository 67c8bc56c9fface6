-- The lines that tell how a service over the gateway ended.
use Rattle.std.specs.Prelude.{ℕ, List, ◌++◌, codes}
use Rattle.reply_text.specs.Reply.{kind_text}
use Rattle.gateway_tool.specs.declared.reply.Reply.{Reply}

-- the reply
abbrev pub answer_line : Reply → List ℕ
answer_line value = codes "answer " ++ kind_text value.kind value.value ++ codes "\n"

-- the line where no reply came
abbrev pub no_answer_line : List ℕ
no_answer_line = codes "no answer\n"

-- the line where the port failed
abbrev pub port_fault_line : List ℕ
port_fault_line = codes "port fault\n"
