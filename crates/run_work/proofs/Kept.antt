-- What no service and no mail changes of a slave, in a session of both.
use Rattle.std.proofs.Common.{◌≡◌, ℕ, ◌+◌, ◌≤◌, Ok, Err, refl, arith}
use Rattle.life_counts.specs.of_life_model.Eras.{Clearing}
use Rattle.life_counts.specs.of_link_mails.Body.{Body}
use Rattle.life_counts.specs.of_few_replies.RowCounts.{AreCounted}
use Rattle.life_counts.specs.of_few_replies.Calm.{asked_count}
use Rattle.life_counts.specs.of_few_replies.Shapes.{Shape, shape_at, shape_most}
use Rattle.life_counts.specs.of_serving_model.Tagged.{Asked, ideal}
use Rattle.run_work.specs.ServedGained.{serving_most}
use Rattle.life_counts.specs.of_slave_model.Profile.{Protocol, Profile}
use Rattle.life_counts.specs.of_slave_model.Server.{ServiceOf}
use Rattle.plan_ring.specs.of_slave_parts.Parts.{Server, parts}
use Rattle.plan_ring.specs.of_slave_parts.Served.{product_whole}
use Rattle.life_counts.specs.of_state_model.Families.{InState}
use Rattle.life_counts.specs.Worked.{KeepsAll}
use Rattle.life_counts.proofs.of_few_replies.Shaped.{mail_stays, exec_stays}
use Rattle.run_work.specs.Sessions.{Wanted, InRow, session, session_states, named, named_mail, named_wanted}

-- what each counts at most
abbrev pub counts : Profile → Shape → Wanted → ℕ
counts p = asked_count (λ k q. shape_most p k q.0 q.1) 76

exec_keeps : (p : Profile) (v : InState Server) (q : Wanted) → shape_at ((session p).exec v q) ≡ shape_at v
exec_keeps p v (Asked.Script q) = exec_stays p v.state v.inner q.0 q.1
exec_keeps p v (Asked.Passed m answers) = mail_stays p v.state v.inner m

pub keeps_all : (p : Profile) (c : Clearing InRow (InState Server)) → ((v : InState Server) → shape_at (c.cleared v) ≡ shape_at v) → AreCounted (session p) (λ w. shape_at (ideal (product_whole parts p) w)) (counts p) →
    KeepsAll (session p) (session_states p) c shape_at (counts p)
keeps_all p c clears counted = record { counted = counted; exec = exec_keeps p; told = λ state v. refl; cleared = clears }

-- a master counts as much
named_most : (p : Profile) (k : Shape) (i : Protocol) (q : ServiceOf i) → shape_most p k i q ≤ serving_most p k (named i q)
named_most p k Protocol.CoE q = omega arith
named_most p k Protocol.FoE q = omega arith
named_most p k Protocol.SoE q = omega arith
named_most p k Protocol.EoE q = omega arith

mail_most : (p : Profile) (k : Shape) (m : Body) → 2 + 76 ≤ serving_most p k (named_mail m)
mail_most p k (Ok m) = omega arith
mail_most p k (Err fault) = omega arith

pub wanted_most : (p : Profile) (k : Shape) (q : Wanted) → counts p k q ≤ serving_most p k (named_wanted q)
wanted_most p k (Asked.Script q) = named_most p k q.0 q.1
wanted_most p k (Asked.Passed m answers) = mail_most p k m
