-- What a sink that keeps all that it gets shows.
use Rattle.std.specs.Prelude.{Some}
use Rattle.pl_io.specs.Seen.{Output}
use Rattle.pl_texts.specs.declared.text_sink.TextSink.{TextSink}

abbrev pub sink_seen : TextSink → Output
sink_seen sink = record { got = Some sink.text.items; faults = sink.faults }
