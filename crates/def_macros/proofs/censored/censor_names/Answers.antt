use Rattle.std.proofs.Common.{◌≡◌, ◌<◌, ◌^◌, arith, ap, refl, length}
use Rattle.def_bindings.specs.declared.visibility.Visibility.{Visibility}
use Rattle.def_bindings.specs.Content.{Content}
use Rattle.def_sources.specs.Tables.{bound_by}
use Rattle.def_tables.specs.Kept.{numbered_vis}
use Rattle.def_tables.specs.NumberedTableLaws.{are_tied}
use Rattle.def_macros.proofs.CensoredLemmas.{names_all, names_step}
use Rattle.def_steps.proofs.GatherLemmas.{within_index}
use Rattle.def_macros.proofs.censored.censor_names.Goals as goal

pub names-init : goal.names-init
names-init c = refl

pub overflow_add-index : goal.overflow_add-index
overflow_add-index c =
    let names = (bound_by c.names.table).names c.args.at in
    let h : c.names.index < length names = within_index names c.names.index c.in-Some.name c.in-Some.ensures.name in
    let few : length names < 2 ^ 64 = c.in-Some.ensures.few in
    omega arith

pub names-smaller : goal.names-smaller
names-smaller c =
    let names = (bound_by c.names.table).names c.args.at in
    let h : c.names.index < length names = within_index names c.names.index c.in-Some.name c.in-Some.ensures.name in
    let same : length ((bound_by c.censor_name.new.table).names c.args.at) ≡ length names = ap (λ (k : Content Visibility). length (k.names c.args.at)) c.in_ok-censor_name.ensures in
    omega arith

pub names-preserved : goal.names-preserved
names-preserved c =
    names_step c.args.at (bound_by c.names.table) c.names.index c.in-Some.name (bound_by c.censor_name.new.table) _ c.in-Some.ensures.name c.in_ok-censor_name.ensures c.names.invariant

pub returns : goal.returns
returns c =
    names_all c.args.at (bound_by c.names.table) (bound_by c.args.table.now) c.names.index (are_tied numbered_vis c.args.table.now) c.in_default.ensures.name c.names.invariant
