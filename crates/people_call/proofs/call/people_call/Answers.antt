use Rattle.std.proofs.Common.{refl, sym, ◌∙◌}
use Rattle.people_call.specs.Course.{Comes}
use Rattle.people_call.proofs.call.people_call.Goals as goal

pub returns-in-Told-clause-course : goal.returns-in-Told-clause-course
returns-in-Told-clause-course g c = Comes.told c.tell_words.result (sym c.form_of.ensures ∙ c.in-Told.is) c.tell_words.ensures.told refl refl

pub returns-in-Entry-clause-course : goal.returns-in-Entry-clause-course
returns-in-Entry-clause-course g c = Comes.entered c.get_or_put.result (sym c.form_of.ensures ∙ c.in-Entry.is) c.get_or_put.ensures.course

pub returns-in-Other-clause-course : goal.returns-in-Other-clause-course
returns-in-Other-clause-course g c = Comes.other (sym c.form_of.ensures ∙ c.in-Other.is) refl refl refl
