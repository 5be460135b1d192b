-- The links are written back whole, and counted as they were read.
use Rattle.std.proofs.Common.{arith}
use Rattle.babel_topology.proofs.Costs.{costs_whole}
use Rattle.babel_topology.proofs.GrowingLists.{ends_whole, once_whole}
use Rattle.babel_topology.proofs.FileTexts.{about_counted, among_counted}
use Rattle.babel_topology.proofs.file.reading.topology_of.Goals as goal

pub returns-clause-ends : goal.returns-clause-ends
returns-clause-ends c = ends_whole _ _ c.in_ok-links.links.items c.deref_mut.result.now c.choose_interfaces.new.links _ c.in_ok-links.links.len
    c.deref.ensures.len c.deref_mut.ensures.value (omega arith) c.in_ok-interfaces.ensures.nodes c.in_ok-links.ensures.ends

pub returns-clause-once : goal.returns-clause-once
returns-clause-once c = once_whole c.in_ok-links.links.items c.deref_mut.result.now c.choose_interfaces.new.links _ c.in_ok-links.links.len
    c.deref_mut.ensures.value (omega arith) c.in_ok-interfaces.ensures.nodes c.in_ok-links.ensures.once

pub returns-clause-costs : goal.returns-clause-costs
returns-clause-costs c = costs_whole c.in_ok-interfaces.interfaces.items c.choose_interfaces.new.links _ c.in_ok-links.links.len (omega arith)
    c.in_ok-interfaces.ensures.costs

pub returns-clause-steps : goal.returns-clause-steps
returns-clause-steps c = about_counted _ _ _ _ c.in_ok-steps.steps.items c.deref-2.ensures.len c.deref-3.ensures.len c.in_ok-steps.ensures.about

pub returns-clause-expectations : goal.returns-clause-expectations
returns-clause-expectations c = among_counted _ _ c.in_ok-expectations.expectations.items c.deref-4.ensures.len c.in_ok-expectations.ensures.among
