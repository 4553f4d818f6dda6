use Rattle.cdl_print.proofs.layout.TextLayout.put_char_lead.Goals as goal

pub returns-then-not-self-clause-written : goal.returns-then-not-self-clause-written
returns-then-not-self-clause-written c = rw (c.if-progress-ne0.false, c.if-not-self.true) c.put_bytes.ensures.written

pub returns-then-progress-eq0-clause-written : goal.returns-then-progress-eq0-clause-written
returns-then-progress-eq0-clause-written c = rw (c.if-progress-ne0.false, c.if-not-self.false, c.if-progress-eq0.true) c.put_bytes-then-progress-eq0.ensures.written
